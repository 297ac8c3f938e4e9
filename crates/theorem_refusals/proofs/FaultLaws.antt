-- The tests of the definitions that give 8 pass exactly where none of the sentences of the papers' faults holds.
use Rattle.numbers.proofs.Kit.{◌≡◌, refl, sym, ap, ◌∙◌, subst, ◌↔◌, ◌⊎◌, inl, inr, Bool, true, false, cond, not, ◌&&◌, ◌||◌, List, [], ◌∷◌, map, List-as-Memᴰ}
use Rattle.numbers.proofs.Kit.{List·Memᴰ·head, List·Memᴰ·tail, List·Memᴰ·cases-cons, List·Memᴰ·not-nil, ℕ, zero, suc, ◌+◌, ◌-◌, ◌*◌, ◌/◌, ◌%◌, ◌^◌, ◌≤◌}
use Rattle.numbers.proofs.Kit.{◌<◌, min, one-le-pow, div-add-mod', arith, leb, ltb, eqb, length, get_or, pow-add, eq-eqb, eqb-true, ltb-true, ltb-false}
use Rattle.numbers.proofs.Kit.{lt-ltb, leb-true, le-leb}
use Rattle.machine.specs.Tests.{all, every, all_of, is_in}
use Rattle.machine.specs.declared.Machine.{Machine}
use Rattle.machine.specs.Geometry.{Range, rlens, mlens, elens, permitted, register_bytes, Bench}
use Rattle.machine.specs.Setting.{new_type}
use Rattle.machine.specs.Starting.{is_rule, seal_ends, seals_end, ranges, paired, startable}
use Rattle.machine.specs.Faults.{sound, seals_fit, sound_bench}
use Rattle.machine.proofs.TestLaws.{and-true, and_left, and_right, or-not, false-true, all-at, every-each, each-every, Each, each_in, all_of-at, all_of-true}
use Rattle.machine.proofs.CodeLaws.{types_are}
use Rattle.theorem_refusals.specs.Listed.{legal_values}
use Rattle.theorem_refusals.specs.Faults.{PowerOfTwo, Permitted, OfTheirSize, KnownRule, EachEnds, NotAtFault, FaultsAreThese}
use Rattle.theorem_refusals.specs.Starts.{Startable}

-- ---- powers of two

-- one of some powers
power-of : (n : ℕ) (es : List ℕ) → is_in n (map (λ (e : ℕ). 2 ^ e) es) ≡ true → (e : ℕ) × (n ≡ 2 ^ e)
power-of n [] h = absurd (false-true h)
power-of n (e ∷ es) h = go (eqb n (2 ^ e)) refl (power-of n es)
  where
    go : (t : Bool) → eqb n (2 ^ e) ≡ t → (is_in n (map (λ (e : ℕ). 2 ^ e) es) ≡ true → (e : ℕ) × (n ≡ 2 ^ e)) → (e : ℕ) × (n ≡ 2 ^ e)
    go true q ih = (e, eqb-true n (2 ^ e) q)
    go false q ih = ih (or-not (eqb n (2 ^ e)) (is_in n (map (λ (e : ℕ). 2 ^ e) es)) h q)

-- those within two bounds are in a list, as far as 2^16
in_list : (least most : ℕ) (ns : List ℕ) → most < 2 ^ 17 → all 17 (λ e. not (leb least (2 ^ e) && leb (2 ^ e) most) || is_in (2 ^ e) ns) ≡ true
    → (n : ℕ) → PowerOfTwo least most n → is_in n ns ≡ true
in_list least most ns m h n p = subst (λ (x : ℕ). is_in x ns ≡ true) (sym p.2.1) (go (ltb e 17) refl)
  where
    e : ℕ
    e = p.2.0

    far : 17 ≤ e → 2 ^ 17 ≤ 2 ^ e
    far l =
        let d : e ≡ 17 + (e - 17) = omega arith in
        subst (λ (x : ℕ). 2 ^ 17 ≤ 2 ^ x) (sym d) (rw (pow-add 2 17 (e - 17)) (omega (arith, one-le-pow (e - 17) 2 (omega arith))))

    go : (t : Bool) → ltb e 17 ≡ t → is_in (2 ^ e) ns ≡ true
    go true q =
        or-not (not (leb least (2 ^ e) && leb (2 ^ e) most)) (is_in (2 ^ e) ns)
        (all-at 17 (λ e. not (leb least (2 ^ e) && leb (2 ^ e) most) || is_in (2 ^ e) ns) h e (ltb-true e 17 q))
        (ap not (and-true (leb least (2 ^ e)) (leb (2 ^ e) most) (le-leb least (2 ^ e) (omega (arith, p.0, p.2.1))) (le-leb (2 ^ e) most (omega (arith, p.1, p.2.1)))))
    go false q = absurd (omega (arith, far (ltb-false e 17 q), p.1, p.2.1))

-- ---- lengths

between : (least most n : ℕ) → leb least n && leb n most ≡ true → (least ≤ n) × (n ≤ most)
between least most n h = (leb-true least n (and_left (leb least n) (leb n most) h), leb-true n most (and_right (leb least n) (leb n most) h))

one_of_two : (a b n : ℕ) → is_in n (a ∷ b ∷ []) ≡ true → (n ≡ a) ⊎ (n ≡ b)
one_of_two a b n h = go (eqb n a) (eqb n b) refl refl h
  where
    go : (s t : Bool) → eqb n a ≡ s → eqb n b ≡ t → s || (t || false) ≡ true → (n ≡ a) ⊎ (n ≡ b)
    go true t e f h = inl (eqb-true n a e)
    go false true e f h = inr (eqb-true n b f)
    go false false e f h = absurd (false-true h)

abbrev length_tests : (rlen mlen elen : ℕ) → List Bool
length_tests rlen mlen elen = is_in rlen rlens ∷ is_in mlen mlens ∷ ltb rlen mlen ∷ is_in elen elens ∷ ltb elen rlen ∷ []

permitted-in-words : (rlen mlen elen : ℕ) → permitted rlen mlen elen ≡ true → Permitted rlen mlen elen
unfolding permitted
permitted-in-words rlen mlen elen h =
    let t = every-each (length_tests rlen mlen elen) h in
    let r = between 64 4096 rlen (each_in rlen rlens (λ n. leb 64 n && leb n 4096) refl t.0) in
    let m = between 128 65536 mlen (each_in mlen mlens (λ n. leb 128 n && leb n 65536) refl t.1.0) in
    record {
      rlen-power = (r.0, r.1, power-of rlen (6 ∷ 7 ∷ 8 ∷ 9 ∷ 10 ∷ 11 ∷ 12 ∷ []) t.0);
      mlen-power = (m.0, m.1, power-of mlen (7 ∷ 8 ∷ 9 ∷ 10 ∷ 11 ∷ 12 ∷ 13 ∷ 14 ∷ 15 ∷ 16 ∷ []) t.1.0);
      rlen-below = ltb-true rlen mlen t.1.1.0;
      elen-choice = one_of_two 32 64 elen t.1.1.1.0;
      elen-below = ltb-true elen rlen t.1.1.1.1.0;
    }

words-permitted : (rlen mlen elen : ℕ) → Permitted rlen mlen elen → permitted rlen mlen elen ≡ true
unfolding permitted
words-permitted rlen mlen elen p =
    each-every (length_tests rlen mlen elen) (
      in_list 64 4096 rlens (omega arith) refl rlen p.rlen-power,
      (
        in_list 128 65536 mlens (omega arith) refl mlen p.mlen-power,
        (
          lt-ltb rlen mlen p.rlen-below,
          (
            elim p.elen-choice [
              | inl e ↦ subst (λ (n : ℕ). is_in n elens ≡ true) (sym e) refl
              | inr e ↦ subst (λ (n : ℕ). is_in n elens ≡ true) (sym e) refl
            ],
            (lt-ltb elen rlen p.elen-below, tt),
          ),
        ),
      ),
    )

-- ---- buffers, rules and ranges

of-their-size : (mlen : ℕ) (registers marks : List ℕ) → length registers ≡ register_bytes mlen → length marks ≡ register_bytes mlen → OfTheirSize mlen registers marks
of-their-size mlen registers marks h k = record { bits = omega (arith, h); mark-bytes = k ∙ sym h }

size-of-them : (mlen : ℕ) (registers marks : List ℕ) → OfTheirSize mlen registers marks → (length registers ≡ register_bytes mlen) × (length marks ≡ register_bytes mlen)
size-of-them mlen registers marks s = let e : length registers ≡ 2 * mlen = omega (arith, s.bits) in (e, s.mark-bytes ∙ e)

known-rule : (rule : ℕ) → is_rule rule ≡ true → KnownRule rule
known-rule zero h = inl refl
known-rule (suc zero) h = inr refl
known-rule (suc (suc n)) h = absurd (omega (arith, leb-true (suc (suc n)) 1 h))

rule-known : (rule : ℕ) → KnownRule rule → is_rule rule ≡ true
rule-known rule k = elim k [ inl e ↦ subst (λ (n : ℕ). is_rule n ≡ true) (sym e) refl | inr e ↦ subst (λ (n : ℕ). is_rule n ≡ true) (sym e) refl ]

each-ends : (seals : List Range) → seals_end seals ≡ true → EachEnds seals
each-ends [] h r m = absurd (List·Memᴰ·not-nil m)
each-ends (s ∷ seals) h r m =
    elim (List·Memᴰ·cases-cons m) [
      | inl e ↦ subst (λ (x : Range). x.start + x.size ≤ 2 ^ 64 - 1) (sym e) (leb-true (s.start + s.size) (2 ^ 64 - 1) (and_left (seal_ends s.start s.size) (seals_end seals) h))
      | inr n ↦ each-ends seals (and_right (seal_ends s.start s.size) (seals_end seals) h) r n
    ]

ends-each : (seals : List Range) → EachEnds seals → seals_end seals ≡ true
ends-each [] h = refl
ends-each (s ∷ seals) h =
    and-true (seal_ends s.start s.size) (seals_end seals) (le-leb (s.start + s.size) (2 ^ 64 - 1) (h s (List·Memᴰ·head refl)))
    (ends-each seals (λ r m. h r (List·Memᴰ·tail m)))

in_pairs : (n : ℕ) → eqb (n % 2) 0 ≡ true → (k : ℕ) × (n ≡ k * 2)
in_pairs n h = (n / 2, omega (arith, div-add-mod' n 2, eqb-true (n % 2) 0 h))

pairs-in : (n : ℕ) → ((k : ℕ) × (n ≡ k * 2)) → eqb (n % 2) 0 ≡ true
pairs-in n p = eq-eqb (n % 2) 0 (omega (arith, p.1))

-- ---- a start

module _ (rlen mlen elen rule : ℕ) (seals registers marks : List ℕ) where
  abbrev start_tests : List Bool
  start_tests =
      permitted rlen mlen elen ∷ eqb (length registers) (register_bytes mlen) ∷ eqb (length marks) (register_bytes mlen) ∷ is_rule rule ∷ paired seals
      ∷ seals_end (ranges seals) ∷ []

  pub startable-in-words : (startable rlen mlen elen rule seals registers marks ≡ true) ↔ Startable rlen mlen elen rule seals registers marks
  unfolding startable
  startable-in-words = (to, back)
    where
      to : every start_tests ≡ true → Startable rlen mlen elen rule seals registers marks
      to h =
          let t = every-each start_tests h in
          record {
            lengths = permitted-in-words rlen mlen elen t.0;
            buffers = of-their-size mlen registers marks (eqb-true (length registers) (register_bytes mlen) t.1.0) (eqb-true (length marks) (register_bytes mlen) t.1.1.0);
            known-rule = known-rule rule t.1.1.1.0;
            in_pairs = in_pairs (length seals) t.1.1.1.1.0;
            each-ends = each-ends (ranges seals) t.1.1.1.1.1.0;
          }

      back : Startable rlen mlen elen rule seals registers marks → every start_tests ≡ true
      back s =
          let z = size-of-them mlen registers marks s.buffers in
          each-every start_tests (
            words-permitted rlen mlen elen s.lengths,
            (
              eq-eqb (length registers) (register_bytes mlen) z.0,
              (
                eq-eqb (length marks) (register_bytes mlen) z.1,
                (rule-known rule s.known-rule, (pairs-in (length seals) s.in_pairs, (ends-each (ranges seals) s.each-ends, tt))),
              ),
            ),
          )

-- ---- a state

-- a value that can arise
arises : (elen t : ℕ) → is_in elen elens ≡ true → new_type elen t ≡ t → (is_in t (legal_values elen) ≡ true) ⊎ (t ≡ 2 ^ 63)
arises elen t known h = go (is_in t (legal_values elen)) refl
  where
    go : (b : Bool) → is_in t (legal_values elen) ≡ b → (is_in t (legal_values elen) ≡ true) ⊎ (t ≡ 2 ^ 63)
    go true e = inl e
    go false e = inr (sym h ∙ types_are elen known t ∙ ap (λ (b : Bool). cond b t (2 ^ 63)) e)

can-arise : (elen t : ℕ) → is_in elen elens ≡ true → ((is_in t (legal_values elen) ≡ true) ⊎ (t ≡ 2 ^ 63)) → new_type elen t ≡ t
can-arise elen t known h = types_are elen known t ∙ go (is_in t (legal_values elen)) refl h
  where
    go : (b : Bool) → is_in t (legal_values elen) ≡ b → ((b ≡ true) ⊎ (t ≡ 2 ^ 63)) → cond b t (2 ^ 63) ≡ t
    go true e x = refl
    go false e (inl x) = absurd (false-true x)
    go false e (inr x) = sym x

-- a mark that is one of the two values
mark-is : (n : ℕ) → n < 2 → (n ≡ 0) ⊎ (n ≡ 1)
mark-is zero h = inl refl
mark-is (suc zero) h = inr refl
mark-is (suc (suc n)) h = absurd (omega (arith, h))

module _ (B : Bench) where
  abbrev m : Machine
  m = B.machine

  abbrev state_tests : List Bool
  state_tests =
      permitted m.rlen m.mlen m.elen ∷ eqb (length B.registers) (register_bytes m.mlen) ∷ eqb (length B.marks) (register_bytes m.mlen)
      ∷ eqb (new_type m.elen m.mtype) m.mtype ∷ leb m.tile_m (m.mlen / m.rlen)
      ∷ leb m.tile_k (min (m.mlen / m.rlen) (m.rlen / 8)) ∷ leb m.tile_n (m.rlen / 8) ∷ is_rule m.rule
      ∷ all_of (λ mark. ltb mark 2) B.marks ∷ []

  abbrev range_tests : List Bool
  range_tests = leb (length B.seals) 8 ∷ seals_end B.seals ∷ []

  pub faults-are-these : (sound_bench B ≡ true) ↔ NotAtFault B
  unfolding sound seals_fit permitted
  faults-are-these = (to, back)
    where
      to : every state_tests && every range_tests ≡ true → NotAtFault B
      to h =
          let t = every-each state_tests (and_left (every state_tests) (every range_tests) h) in
          let r = every-each range_tests (and_right (every state_tests) (every range_tests) h) in
          let k = (every-each (length_tests m.rlen m.mlen m.elen) t.0).1.1.1.0 in
          record {
            lengths = permitted-in-words m.rlen m.mlen m.elen t.0;
            buffers = of-their-size m.mlen B.registers B.marks (eqb-true (length B.registers) (register_bytes m.mlen) t.1.0) (eqb-true (length B.marks) (register_bytes m.mlen) t.1.1.0);
            mtype = arises m.elen m.mtype k (eqb-true (new_type m.elen m.mtype) m.mtype t.1.1.1.0);
            tile-m = leb-true m.tile_m (m.mlen / m.rlen) t.1.1.1.1.0;
            tile-k = leb-true m.tile_k (min (m.mlen / m.rlen) (m.rlen / 8)) t.1.1.1.1.1.0;
            tile-n = leb-true m.tile_n (m.rlen / 8) t.1.1.1.1.1.1.0;
            rule = known-rule m.rule t.1.1.1.1.1.1.1.0;
            each-mark = λ q l. mark-is (get_or B.marks q 0) (ltb-true (get_or B.marks q 0) 2 (all_of-at (λ mark. ltb mark 2) B.marks t.1.1.1.1.1.1.1.1.0 q l));
            at-most-eight = leb-true (length B.seals) 8 r.0;
            each-ends = each-ends B.seals r.1.0;
          }

      back : NotAtFault B → every state_tests && every range_tests ≡ true
      back n =
          let z = size-of-them m.mlen B.registers B.marks n.buffers in
          let p = words-permitted m.rlen m.mlen m.elen n.lengths in
          let k = (every-each (length_tests m.rlen m.mlen m.elen) p).1.1.1.0 in
          and-true (every state_tests) (every range_tests)
          (each-every state_tests (
            p,
            (
              eq-eqb (length B.registers) (register_bytes m.mlen) z.0,
              (
                eq-eqb (length B.marks) (register_bytes m.mlen) z.1,
                (
                  eq-eqb (new_type m.elen m.mtype) m.mtype (can-arise m.elen m.mtype k n.mtype),
                  (
                    le-leb m.tile_m (m.mlen / m.rlen) n.tile-m,
                    (
                      le-leb m.tile_k (min (m.mlen / m.rlen) (m.rlen / 8)) n.tile-k,
                      (
                        le-leb m.tile_n (m.rlen / 8) n.tile-n,
                        (
                          rule-known m.rule n.rule,
                          (all_of-true (λ mark. ltb mark 2) B.marks (λ q l. lt-ltb (get_or B.marks q 0) 2 (elim (n.each-mark q l) [ inl e ↦ omega (arith, e) | inr e ↦ omega (arith, e) ])), tt),
                        ),
                      ),
                    ),
                  ),
                ),
              ),
            ),
          ))
          (each-every range_tests (le-leb (length B.seals) 8 n.at-most-eight, (ends-each B.seals n.each-ends, tt)))
