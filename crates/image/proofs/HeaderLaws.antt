-- A machine that is not at fault has numbers that an image can hold, and such numbers make a machine that is not at fault.
use Rattle.numbers.proofs.Kit.{◌≡◌, refl, sym, ap, ap₂, ◌∙◌, subst, inl, inr, Bool, true, false, cond, not, ◌&&◌, ◌||◌, List, [], ◌∷◌, ℕ, ◌+◌, ◌-◌}
use Rattle.numbers.proofs.Kit.{◌/◌, ◌^◌, ◌≤◌, ◌<◌, min, arith, leb, ltb, eqb, length, get_or, leb-true, ltb-true, eqb-true, le-leb, lt-ltb}
use Rattle.numbers_format.specs.Numbers.{Among}
use Rattle.numbers_format.specs.Parser.{is_among}
use Rattle.numbers_format.proofs.NumberLaws.{is_among-among, among-is_among}
use Rattle.machine.specs.declared.Machine.{Machine}
use Rattle.machine.specs.Tests.{all, every, is_in}
use Rattle.machine.specs.Geometry.{rlens, mlens, elens, permitted, register_bytes}
use Rattle.machine.specs.Setting.{sew, legal_type, new_type}
use Rattle.machine.specs.Starting.{seal_ends, seals_end, most_seals}
use Rattle.machine.specs.Faults.{sound, seals_fit}
use Rattle.machine.proofs.TestLaws.{every-each, each-every, each, each_in, or-not, all-at, and_left, and_right, and-true}
use Rattle.machine.proofs.NoFault.{Sound, sound-is, sound-true}
use Rattle.image.specs.Images.{log2, exponent, Seals, Header, header_of, machine_from, sound_with}
use Rattle.image.specs.ImageFormat.{mtypes, all_register_bytes}
use Rattle.image.proofs.ImageLaws.{Ending, Held}

-- ---- permitted lengths and their exponents, computed

-- r, m and e are the exponents of these lengths and of ELEN
pub record Powers (rlen mlen elen r m e : ℕ) : Type 0 where
  pub rlen-is : 2 ^ r ≡ rlen
  pub mlen-is : 2 ^ m ≡ mlen
  pub elen-is : 2 ^ e ≡ elen
  pub rows_are : 2 ^ (m - r) ≡ mlen / rlen
  pub columns-are : 2 ^ (r - 3) ≡ rlen / 8
  pub elen-ok : (5 ≤ e) × (e ≤ 6)
  pub rlen-ok : (e < r) × (r ≤ 12)
  pub mlen-ok : (r < m) × (m ≤ 16)

abbrev tests : (rlen mlen elen r m e : ℕ) → List Bool
tests rlen mlen elen r m e =
    eqb (2 ^ r) rlen ∷ eqb (2 ^ m) mlen ∷ eqb (2 ^ e) elen ∷ eqb (2 ^ (m - r)) (mlen / rlen) ∷ eqb (2 ^ (r - 3)) (rlen / 8)
    ∷ leb 5 e ∷ leb e 6 ∷ ltb e r ∷ leb r 12 ∷ ltb r m ∷ leb m 16 ∷ []

powers-by : (rlen mlen elen r m e : ℕ) → every (tests rlen mlen elen r m e) ≡ true → Powers rlen mlen elen r m e
powers-by rlen mlen elen r m e h =
    let q = every-each (tests rlen mlen elen r m e) h in
    let p = q.1.1.1.1.1 in
    record {
      rlen-is = eqb-true (2 ^ r) rlen q.0;
      mlen-is = eqb-true (2 ^ m) mlen q.1.0;
      elen-is = eqb-true (2 ^ e) elen q.1.1.0;
      rows_are = eqb-true (2 ^ (m - r)) (mlen / rlen) q.1.1.1.0;
      columns-are = eqb-true (2 ^ (r - 3)) (rlen / 8) q.1.1.1.1.0;
      elen-ok = (leb-true 5 e p.0, leb-true e 6 p.1.0);
      rlen-ok = (ltb-true e r p.1.1.0, leb-true r 12 p.1.1.1.0);
      mlen-ok = (ltb-true r m p.1.1.1.1.0, leb-true m 16 p.1.1.1.1.1.0);
    }

-- permitted lengths have exponents
pub permitted-powers : (rlen mlen elen : ℕ) → permitted rlen mlen elen ≡ true → Powers rlen mlen elen (exponent rlen) (exponent mlen) (exponent elen)
unfolding permitted log2
permitted-powers rlen mlen elen h =
    let t = every-each (is_in rlen rlens ∷ is_in mlen mlens ∷ ltb rlen mlen ∷ is_in elen elens ∷ ltb elen rlen ∷ []) h in
    let good : ℕ → ℕ → ℕ → Bool = λ e r m. not (ltb e r && ltb r m) || every (tests r m e (exponent r) (exponent m) (exponent e)) in
    let p : good elen rlen mlen ≡ true =
    each_in mlen mlens (good elen rlen)
    (each_in rlen rlens (λ r. each mlens (good elen r)) (each_in elen elens (λ e. each rlens (λ r. each mlens (good e r))) refl t.1.1.1.0) t.0) t.1.0 in
    powers-by rlen mlen elen (exponent rlen) (exponent mlen) (exponent elen)
    (or-not (not (ltb elen rlen && ltb rlen mlen)) (every (tests rlen mlen elen (exponent rlen) (exponent mlen) (exponent elen))) p (rw (t.1.1.0, t.1.1.1.1.0)))

-- exponents in their ranges are those of permitted lengths
abbrev lengths : ℕ → ℕ → ℕ → List Bool
lengths r m e =
    permitted (2 ^ r) (2 ^ m) (2 ^ e) ∷ eqb (exponent (2 ^ r)) r ∷ eqb (exponent (2 ^ m)) m ∷ eqb (exponent (2 ^ e)) e
    ∷ eqb (2 ^ (m - r)) (2 ^ m / 2 ^ r) ∷ eqb (2 ^ (r - 3)) (2 ^ r / 8) ∷ []

pub record Lengths (r m e : ℕ) : Type 0 where
  pub allowed : permitted (2 ^ r) (2 ^ m) (2 ^ e) ≡ true
  pub rlen-back : exponent (2 ^ r) ≡ r
  pub mlen-back : exponent (2 ^ m) ≡ m
  pub elen-back : exponent (2 ^ e) ≡ e
  pub rows_are : 2 ^ (m - r) ≡ 2 ^ m / 2 ^ r
  pub columns-are : 2 ^ (r - 3) ≡ 2 ^ r / 8

pub powers-permitted : (r m e : ℕ) → (5 ≤ e) × (e ≤ 6) → (e < r) × (r ≤ 12) → (r < m) × (m ≤ 16) → Lengths r m e
unfolding permitted log2
powers-permitted r m e he hr hm =
    let good : ℕ → ℕ → ℕ → Bool = λ e r m. not (leb 5 e && (ltb e r && ltb r m)) || every (lengths r m e) in
    let p : good e r m ≡ true = all-at 17 (good e r) (all-at 13 (λ r. all 17 (good e r)) (all-at 7 (λ e. all 13 (λ r. all 17 (good e r))) refl e (omega arith)) r (omega arith)) m (omega arith) in
    let q = every-each (lengths r m e) (or-not (not (leb 5 e && (ltb e r && ltb r m))) (every (lengths r m e)) p (rw (le-leb 5 e he.0, lt-ltb e r hr.0, lt-ltb r m hm.0))) in
    record {
      allowed = q.0;
      rlen-back = eqb-true (exponent (2 ^ r)) r q.1.0;
      mlen-back = eqb-true (exponent (2 ^ m)) m q.1.1.0;
      elen-back = eqb-true (exponent (2 ^ e)) e q.1.1.1.0;
      rows_are = eqb-true (2 ^ (m - r)) (2 ^ m / 2 ^ r) q.1.1.1.1.0;
      columns-are = eqb-true (2 ^ (r - 3)) (2 ^ r / 8) q.1.1.1.1.1.0;
    }

-- ---- the mtypes that can arise

-- below 16, computed
abbrev same : ℕ → ℕ → Bool
same e v = eqb (new_type (2 ^ e) v) (cond (is_among v (mtypes e)) v (2 ^ 63))

types_same : (e : ℕ) → (5 ≤ e) × (e ≤ 6) → (v : ℕ) → v < 16 → new_type (2 ^ e) v ≡ cond (is_among v (mtypes e)) v (2 ^ 63)
unfolding new_type legal_type sew is_among mtypes
types_same e h v l =
    let p : not (leb 5 e) || all 16 (same e) ≡ true = all-at 7 (λ e. not (leb 5 e) || all 16 (same e)) refl e (omega arith) in
    eqb-true (new_type (2 ^ e) v) (cond (is_among v (mtypes e)) v (2 ^ 63)) (all-at 16 (same e) (or-not (not (leb 5 e)) (all 16 (same e)) p (rw (le-leb 5 e h.0))) v l)

type-among : (e : ℕ) → (5 ≤ e) × (e ≤ 6) → (t : ℕ) → new_type (2 ^ e) t ≡ t → Among t (mtypes e)
unfolding new_type legal_type mtypes
type-among e k t h = go (ltb t 16) refl
  where
    large : t ≡ 2 ^ 63 → Among t (mtypes e)
    large is = inr (inr (inl (omega arith, omega arith)))

    small : t < 16 → (b : Bool) → is_among t (mtypes e) ≡ b → Among t (mtypes e)
    small l true d = is_among-among t (mtypes e) d
    small l false d = large (sym h ∙ types_same e k t l ∙ ap (λ (b : Bool). cond b t (2 ^ 63)) d)

    go : (b : Bool) → ltb t 16 ≡ b → Among t (mtypes e)
    go true q = small (ltb-true t 16 q) (is_among t (mtypes e)) refl
    go false q = large (sym h ∙ rw q)

among-type : (e : ℕ) → (5 ≤ e) × (e ≤ 6) → (t : ℕ) → Among t (mtypes e) → new_type (2 ^ e) t ≡ t
unfolding new_type legal_type mtypes
among-type e k t a = go a
  where
    small : t < 16 → new_type (2 ^ e) t ≡ t
    small l = types_same e k t l ∙ ap (λ (b : Bool). cond b t (2 ^ 63)) (among-is_among t (mtypes e) a)

    go : Among t (mtypes e) → new_type (2 ^ e) t ≡ t
    go (inl h) = small (omega (arith, h, k))
    go (inr (inl h)) = small (omega (arith, h, k))
    go (inr (inr (inl h))) = subst (λ (v : ℕ). new_type (2 ^ e) v ≡ v) {x = 2 ^ 63} (omega arith) refl
    go (inr (inr (inr h))) = absurd h

-- ---- machines

-- ranges that a machine can hold
pub ends-ending : (rs : Seals) → seals_end rs ≡ true → Ending rs
ends-ending [] h = tt
ends-ending (r ∷ rs) h = (
  let e : r.start + r.size ≤ 2 ^ 64 - 1 = leb-true (r.start + r.size) (2 ^ 64 - 1) (and_left (seal_ends r.start r.size) (seals_end rs) h) in omega arith,
  ends-ending rs (and_right (seal_ends r.start r.size) (seals_end rs) h),
)

pub ending-ends : (rs : Seals) → Ending rs → seals_end rs ≡ true
ending-ends [] h = refl
ending-ends (r ∷ rs) h = and-true (seal_ends r.start r.size) (seals_end rs) (le-leb (r.start + r.size) (2 ^ 64 - 1) (omega (arith, h.0))) (ending-ends rs h.1)

fit-tests : Seals → List Bool
fit-tests seals = leb (length seals) most_seals ∷ seals_end seals ∷ []

pub fit-facts : (seals : Seals) → seals_fit seals ≡ true → (length seals ≤ 8) × Ending seals
unfolding seals_fit fit-tests
fit-facts seals h = let t = every-each (fit-tests seals) h in (leb-true (length seals) 8 t.0, ends-ending seals t.1.0)

pub facts-fit : (seals : Seals) → length seals ≤ 8 → Ending seals → seals_fit seals ≡ true
unfolding seals_fit fit-tests
facts-fit seals few e = each-every (fit-tests seals) (le-leb (length seals) 8 few, (ending-ends seals e, tt))

module _ (m : Machine) (seals : Seals) (registers marks : List ℕ) (s : sound_with m seals registers marks ≡ true) where
  facts : Sound m registers marks
  facts = sound-is m registers marks (and_left (sound m registers marks) (seals_fit seals) s)

  fit : (length seals ≤ 8) × Ending seals
  fit = fit-facts seals (and_right (sound m registers marks) (seals_fit seals) s)

  powers : Powers m.rlen m.mlen m.elen (exponent m.rlen) (exponent m.mlen) (exponent m.elen)
  powers = permitted-powers m.rlen m.mlen m.elen facts.lengths

  pub held : Held (header_of m seals)
  held =
      let st = facts.state in
      let p = powers in
      let least : min (m.mlen / m.rlen) (m.rlen / 8) ≡ min (2 ^ (exponent m.mlen - exponent m.rlen)) (2 ^ (exponent m.rlen - 3)) = ap₂ min (sym p.rows_are) (sym p.columns-are) in
      record {
        elen-ok = p.elen-ok;
        rlen-ok = p.rlen-ok;
        mlen-ok = p.mlen-ok;
        mtype-ok = type-among (exponent m.elen) p.elen-ok m.mtype (subst (λ (e : ℕ). new_type e m.mtype ≡ m.mtype) (sym p.elen-is) st.type-arises);
        tile-m-ok = subst (λ (x : ℕ). m.tile_m ≤ x) (sym p.rows_are) st.m-fits;
        tile-k-ok = subst (λ (x : ℕ). m.tile_k ≤ x) least st.k-fits;
        tile-n-ok = subst (λ (x : ℕ). m.tile_n ≤ x) (sym p.columns-are) st.n-fits;
        seals-few = fit.0;
        seals-ok = fit.1;
        rule-ok = leb-true m.rule 1 facts.rule-is;
      }

  pub machine-back : machine_from (header_of m seals) ≡ m
  machine-back =
      ap₂ (λ (r l : ℕ). record { rlen = r; mlen = l; mtype = m.mtype; tile_m = m.tile_m; tile_k = m.tile_k; tile_n = m.tile_n; rule = m.rule; elen = 2 ^ exponent m.elen })
      powers.rlen-is powers.mlen-is
      ∙ ap (λ (e : ℕ). record { rlen = m.rlen; mlen = m.mlen; mtype = m.mtype; tile_m = m.tile_m; tile_k = m.tile_k; tile_n = m.tile_n; rule = m.rule; elen = e })
      powers.elen-is

  pub registers-sized : length registers ≡ all_register_bytes (exponent m.mlen)
  registers-sized = facts.state.regs-length ∙ ap register_bytes (sym powers.mlen-is)

  pub marks-sized : length marks ≡ all_register_bytes (exponent m.mlen)
  marks-sized = facts.state.marks-length ∙ ap register_bytes (sym powers.mlen-is)

  pub marks-two : (q : ℕ) → get_or marks q 0 < 2
  marks-two = facts.state.marks-two

module _ (h : Header) (k : Held h) where
  lengths-of : Lengths h.rlen h.mlen h.elen
  lengths-of = powers-permitted h.rlen h.mlen h.elen k.elen-ok k.rlen-ok k.mlen-ok

  pub header-back : header_of (machine_from h) h.seals ≡ h
  header-back =
      ap₂ (λ (r l : ℕ). record { rlen = r; mlen = l; mtype = h.mtype; tile_m = h.tile_m; tile_k = h.tile_k; tile_n = h.tile_n; seals = h.seals; rule = h.rule; elen = exponent (2 ^ h.elen) })
      lengths-of.rlen-back lengths-of.mlen-back
      ∙ ap (λ (e : ℕ). record { rlen = h.rlen; mlen = h.mlen; mtype = h.mtype; tile_m = h.tile_m; tile_k = h.tile_k; tile_n = h.tile_n; seals = h.seals; rule = h.rule; elen = e })
      lengths-of.elen-back

  pub sound-from : (registers marks : List ℕ) → length registers ≡ all_register_bytes h.mlen → length marks ≡ all_register_bytes h.mlen → ((q : ℕ) → get_or marks q 0 < 2)
      → sound_with (machine_from h) h.seals registers marks ≡ true
  sound-from registers marks nr nm two =
      let l = lengths-of in
      and-true (sound (machine_from h) registers marks) (seals_fit h.seals) (sound-true (machine_from h) registers marks (record {
        lengths = l.allowed;
        rule-is = le-leb h.rule 1 k.rule-ok;
        state = record {
          regs-length = nr;
          marks-length = nm;
          marks-two = two;
          type-arises = among-type h.elen k.elen-ok h.mtype k.mtype-ok;
          m-fits = subst (λ (x : ℕ). h.tile_m ≤ x) l.rows_are k.tile-m-ok;
          k-fits = subst (λ (x : ℕ). h.tile_k ≤ x) (ap₂ min l.rows_are l.columns-are) k.tile-k-ok;
          n-fits = subst (λ (x : ℕ). h.tile_n ≤ x) l.columns-are k.tile-n-ok;
        };
      })) (facts-fit h.seals k.seals-few k.seals-ok)
