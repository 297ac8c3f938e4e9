-- The tests of a start say what the statement says of bytes, both ways; and an accepted start gives what the turns need.
use Rattle.numbers.proofs.Kit.{◌≡◌, refl, sym, ap, subst, ◌⊎◌, inl, inr, Bool, true, false, cond, not, ◌||◌, List, [], ◌∷◌, ℕ, ◌+◌, ◌*◌, ◌-◌, ◌/◌, ◌≤◌, ◌<◌}
use Rattle.numbers.proofs.Kit.{arith, leb, eqb, length, ℤ, pos, negsuc, ◌+ℤ◌, leb-true, le-leb, ltb-true, eqb-true, eqb-false, eq-eqb, lt-ltb, not-true}
use Rattle.numbers.specs.Tile.{In}
use Rattle.numbers.specs.Blocks.{Choice, EachGrants}
use Rattle.numbers.proofs.BlockLaws.{le-or-lt}
use Rattle.machine.specs.Tests.{all, every, within, is_in}
use Rattle.machine.proofs.TestLaws.{all_true, all-at, every-each, each-every, within-not, not_within, fails-not, not-fails, or_right, false-true}
use Rattle.machine.specs.Geometry.{Range, sealed, permitted}
use Rattle.machine.specs.Setting.{sew, mill, new_type}
use Rattle.machine.specs.Memory.{in_memory, row_z, inside, distinct, rows_miss}
use Rattle.machine.proofs.StoreLaws.{distinct-at, at-distinct}
use Rattle.machine.proofs.MemoryLaws.{inside-byte, misses-at, misses-true, rows-miss-at, rows-miss-true}
use Rattle.machine.specs.Geometry.{Bench}
use Rattle.machine.specs.Faults.{sound_bench}
use Rattle.machine.proofs.StepLaws.{permitted-lengths}
use Rattle.run.specs.declared.Plan.{Plan}
use Rattle.run.specs.Plan.{integers, floats, elements_of, narrow, wide, msew, type_of, a_at, b_at, c_at, a_rows, a_columns}
use Rattle.run.specs.Start.{format, kind_fit, planned, lying, apart, separate}
use Rattle.run.proofs.NumberLaws.{Suits}
use Rattle.run.proofs.WordLaws.{formats}
use Rattle.machine.proofs.StepLaws.{permitted-elen}
use Rattle.run.proofs.Invariant.{Accepted}
use Rattle.run.specs.Statement.{Numbers, Lies, Inside, Separate, job_of, MemoryBytes}

-- ---- bytes in memory

lies-is : (len : ℕ) (z : ℤ) → in_memory len z ≡ true → Lies len z
lies-is len (pos p) h = (p, refl, ltb-true p len h)
lies-is len (negsuc p) h = absurd (false-true h)

lies-true : (len : ℕ) (z : ℤ) → Lies len z → in_memory len z ≡ true
lies-true len z (p, e, l) = subst (λ (y : ℤ). in_memory len y ≡ true) (sym e) (lt-ltb p len l)

module _ (len base stride rows n : ℕ) where
  all_lie : inside len base stride rows n ≡ true → (i b : ℕ) → i < rows → b < n → Lies len (row_z base stride i +ℤ pos b)
  all_lie h i b l l' = lies-is len (row_z base stride i +ℤ pos b) (inside-byte len base stride rows n h i b l l')

  lie-all : ((i b : ℕ) → i < rows → b < n → Lies len (row_z base stride i +ℤ pos b)) → inside len base stride rows n ≡ true
  unfolding inside
  lie-all h =
      all_true rows (λ i. all n (λ b. in_memory len (row_z base stride i +ℤ pos b))) (λ i l.
      all_true n (λ b. in_memory len (row_z base stride i +ℤ pos b)) (λ b l'. lies-true len (row_z base stride i +ℤ pos b) (h i b l l')))

module _ (P : Plan) (mem : List ℕ) where
  abbrev insides : List Bool
  insides =
      inside (length mem) P.a.address P.a.stride (a_rows P) (a_columns P * narrow P)
      ∷ inside (length mem) P.b.address P.b.stride P.k (P.n * narrow P)
      ∷ inside (length mem) P.c.address P.c.stride P.m (P.n * wide P) ∷ []

  pub inside_is : lying P mem ≡ true → Inside P mem
  unfolding lying
  inside_is h =
      let t = every-each insides h in
      record {
        a-lies = all_lie (length mem) P.a.address P.a.stride (a_rows P) (a_columns P * narrow P) t.0;
        b-lies = all_lie (length mem) P.b.address P.b.stride P.k (P.n * narrow P) t.1.0;
        c-lies = all_lie (length mem) P.c.address P.c.stride P.m (P.n * wide P) t.1.1.0;
      }

  pub is-inside : Inside P mem → lying P mem ≡ true
  unfolding lying
  is-inside h = each-every insides (
    lie-all (length mem) P.a.address P.a.stride (a_rows P) (a_columns P * narrow P) h.a-lies,
    (
      lie-all (length mem) P.b.address P.b.stride P.k (P.n * narrow P) h.b-lies,
      (lie-all (length mem) P.c.address P.c.stride P.m (P.n * wide P) h.c-lies, tt),
    ),
  )

-- ---- rows that share no byte

module _ (at : ℕ → ℕ) (rows n : ℕ) (at' : ℕ → ℕ) (rows' o : ℕ) where
  apart-at : apart at rows n at' rows' o ≡ true → (i k q : ℕ) → i < rows → k < rows' → In (at i) n q → ¬ In (at' k) o q
  unfolding apart
  apart-at h i k q l l' x =
      let e : at i + (q - at i) ≡ q = omega arith in
      subst (λ (z : ℕ). ¬ In (at' k) o z) e (within-not (at' k) o (at i + (q - at i))
      (all-at rows' (λ k. not (within (at' k) o (at i + (q - at i))))
      (all-at n (λ b. all rows' (λ k. not (within (at' k) o (at i + b))))
      (all-at rows (λ i. all n (λ b. all rows' (λ k. not (within (at' k) o (at i + b))))) h i l) (q - at i) (omega arith)) k l'))

  at-apart : ((i k q : ℕ) → i < rows → k < rows' → In (at i) n q → ¬ In (at' k) o q) → apart at rows n at' rows' o ≡ true
  unfolding apart
  at-apart h =
      all_true rows (λ i. all n (λ b. all rows' (λ k. not (within (at' k) o (at i + b))))) (λ i l.
      all_true n (λ b. all rows' (λ k. not (within (at' k) o (at i + b)))) (λ b l'.
      all_true rows' (λ k. not (within (at' k) o (at i + b))) (λ k l''. not_within (at' k) o (at i + b) (h i k (at i + b) l l'' (omega arith)))))

module _ (seals : List Range) (P : Plan) where
  abbrev separates : List Bool
  separates =
      distinct (c_at P) P.m (P.n * wide P)
      ∷ apart (a_at P) (a_rows P) (a_columns P * narrow P) (c_at P) P.m (P.n * wide P)
      ∷ apart (b_at P) P.k (P.n * narrow P) (c_at P) P.m (P.n * wide P)
      ∷ rows_miss (sealed seals) P.c.address P.c.stride P.m (P.n * wide P) ∷ []

  pub separate-is : separate (sealed seals) P ≡ true → Separate seals P
  unfolding separate
  separate-is h =
      let t = every-each separates h in
      record {
        rows = distinct-at (c_at P) P.m (P.n * wide P) t.0;
        from-a = apart-at (a_at P) (a_rows P) (a_columns P * narrow P) (c_at P) P.m (P.n * wide P) t.1.0;
        from-b = apart-at (b_at P) P.k (P.n * narrow P) (c_at P) P.m (P.n * wide P) t.1.1.0;
        from-seal = λ i q l x. not-fails (sealed seals q)
            (misses-at (sealed seals) (c_at P i) (P.n * wide P) (rows-miss-at (sealed seals) P.c.address P.c.stride P.m (P.n * wide P) t.1.1.1.0 i l) q x);
      }

  pub is-separate : Separate seals P → separate (sealed seals) P ≡ true
  unfolding separate
  is-separate h = each-every separates (
    at-distinct (c_at P) P.m (P.n * wide P) h.rows,
    (
      at-apart (a_at P) (a_rows P) (a_columns P * narrow P) (c_at P) P.m (P.n * wide P) h.from-a,
      (
        at-apart (b_at P) P.k (P.n * narrow P) (c_at P) P.m (P.n * wide P) h.from-b,
        (
          rows-miss-true (sealed seals) P.c.address P.c.stride P.m (P.n * wide P) (λ i l.
              misses-true (sealed seals) (c_at P i) (P.n * wide P) (λ q x. fails-not (sealed seals q) (h.from-seal i q l x))),
          tt,
        ),
      ),
    ),
  )

-- ---- the numbers of a plan

pub one_of : (x a b c : ℕ) → is_in x (a ∷ b ∷ c ∷ []) ≡ true → (x ≡ a) ⊎ ((x ≡ b) ⊎ (x ≡ c))
one_of x a b c = go (eqb x a) refl (eqb x b) refl (eqb x c) refl
  where
    go : (s : Bool) → eqb x a ≡ s → (t : Bool) → eqb x b ≡ t → (u : Bool) → eqb x c ≡ u → s || (t || (u || false)) ≡ true → (x ≡ a) ⊎ ((x ≡ b) ⊎ (x ≡ c))
    go true e t f u g h = inl (eqb-true x a e)
    go false e true f u g h = inr (inl (eqb-true x b f))
    go false e false f true g h = inr (inr (eqb-true x c g))
    go false e false f false g h = absurd (false-true h)

of_one : (x a b c : ℕ) → (x ≡ a) ⊎ ((x ≡ b) ⊎ (x ≡ c)) → is_in x (a ∷ b ∷ c ∷ []) ≡ true
of_one x a b c (inl e) = rw (eq-eqb x a e)
of_one x a b c (inr (inl e)) = or_right (eqb x a) (eqb x b || (eqb x c || false)) (rw (eq-eqb x b e))
of_one x a b c (inr (inr e)) = or_right (eqb x a) (eqb x b || (eqb x c || false)) (or_right (eqb x b) (eqb x c || false) (rw (eq-eqb x c e)))

one-of-four : (x a b c d : ℕ) → is_in x (a ∷ b ∷ c ∷ d ∷ []) ≡ true → (x ≡ a) ⊎ ((x ≡ b) ⊎ ((x ≡ c) ⊎ (x ≡ d)))
one-of-four x a b c d h = go (eqb x a) refl h
  where
    go : (t : Bool) → eqb x a ≡ t → t || is_in x (b ∷ c ∷ d ∷ []) ≡ true → (x ≡ a) ⊎ ((x ≡ b) ⊎ ((x ≡ c) ⊎ (x ≡ d)))
    go true e h = inl (eqb-true x a e)
    go false e h = inr (one_of x b c d h)

of_four : (x a b c d : ℕ) → (x ≡ a) ⊎ ((x ≡ b) ⊎ ((x ≡ c) ⊎ (x ≡ d))) → is_in x (a ∷ b ∷ c ∷ d ∷ []) ≡ true
of_four x a b c d (inl e) = rw (eq-eqb x a e)
of_four x a b c d (inr h) = or_right (eqb x a) (is_in x (b ∷ c ∷ d ∷ [])) (of_one x b c d h)

module _ (P : Plan) where
  abbrev formats-of : (elen : ℕ) → List Bool
  formats-of elen = is_in P.sew (8 ∷ 16 ∷ 32 ∷ 64 ∷ []) ∷ is_in P.factor (1 ∷ 2 ∷ 4 ∷ []) ∷ leb (P.factor * P.sew) elen ∷ []

  abbrev sizes-of : (elen : ℕ) → List Bool
  sizes-of elen = format elen P.sew P.factor ∷ leb P.m 1024 ∷ leb P.k 1024 ∷ leb P.n 1024 ∷ kind_fit P ∷ []

  -- the kind, by the two ways that its test goes
  kind-is : kind_fit P ≡ true → (P.kind ≤ 2) × (P.kind ≡ 2 → (P.sew ≡ 32) × (P.factor ≡ 1))
  unfolding kind_fit
  kind-is = go (eqb P.kind 2) refl
    where
      go : (t : Bool) → eqb P.kind 2 ≡ t → cond t (every (eqb P.sew 32 ∷ eqb P.factor 1 ∷ [])) (leb P.kind 1) ≡ true
          → (P.kind ≤ 2) × (P.kind ≡ 2 → (P.sew ≡ 32) × (P.factor ≡ 1))
      go true e h =
          let c = every-each (eqb P.sew 32 ∷ eqb P.factor 1 ∷ []) h in
          (omega (arith, eqb-true P.kind 2 e), λ k. (eqb-true P.sew 32 c.0, eqb-true P.factor 1 c.1.0))
      go false e h = (omega (arith, leb-true P.kind 1 h), λ k. absurd (eqb-false P.kind 2 e k))

  is-kind : P.kind ≤ 2 → (P.kind ≡ 2 → (P.sew ≡ 32) × (P.factor ≡ 1)) → kind_fit P ≡ true
  unfolding kind_fit
  is-kind l f = go (eqb P.kind 2) refl
    where
      go : (t : Bool) → eqb P.kind 2 ≡ t → cond t (every (eqb P.sew 32 ∷ eqb P.factor 1 ∷ [])) (leb P.kind 1) ≡ true
      go true e = let c = f (eqb-true P.kind 2 e) in rw (eq-eqb P.sew 32 c.0, eq-eqb P.factor 1 c.1)
      go false e = let d = eqb-false P.kind 2 e in le-leb P.kind 1 (below d)
        where
          below : ¬ (P.kind ≡ 2) → P.kind ≤ 1
          below d = elim (le-or-lt 2 P.kind) [ inl g ↦ absurd (d (omega arith)) | inr g ↦ omega arith ]

  pub suits_of : kind_fit P ≡ true → Suits (elements_of P) P.factor (narrow P)
  unfolding narrow
  suits_of h = go (eqb P.kind 2) refl
    where
      go : (t : Bool) → eqb P.kind 2 ≡ t → Suits (cond t floats integers) P.factor (P.sew / 8)
      go true e = let c = (kind-is h).1 (eqb-true P.kind 2 e) in (c.1, ap (λ (s : ℕ). s / 8) c.0)
      go false e = tt

  pub numbers-are : (B : Bench) → sound_bench B ≡ true → planned B.machine.elen P ≡ true → Numbers P B
  unfolding planned format
  numbers-are B s h =
      let t = every-each (sizes-of B.machine.elen) h in
      let f = every-each (formats-of B.machine.elen) t.0 in
      record {
        no-fault = s;
        sew-is = one-of-four P.sew 8 16 32 64 f.0;
        factor-is = one_of P.factor 1 2 4 f.1.0;
        width_fits = leb-true (P.factor * P.sew) B.machine.elen f.1.1.0;
        m-fits = leb-true P.m 1024 t.1.0;
        k-fits = leb-true P.k 1024 t.1.1.0;
        n-fits = leb-true P.n 1024 t.1.1.1.0;
        kind_fits = (kind-is t.1.1.1.1.0).0;
        float_fits = (kind-is t.1.1.1.1.0).1;
      }

  pub numbers-planned : (B : Bench) → Numbers P B → planned B.machine.elen P ≡ true
  unfolding planned format
  numbers-planned B n = each-every (sizes-of B.machine.elen) (
    each-every (formats-of B.machine.elen) (of_four P.sew 8 16 32 64 n.sew-is, (of_one P.factor 1 2 4 n.factor-is, (le-leb (P.factor * P.sew) B.machine.elen n.width_fits, tt))),
    (le-leb P.m 1024 n.m-fits, (le-leb P.k 1024 n.k-fits, (le-leb P.n 1024 n.n-fits, (is-kind n.kind_fits n.float_fits, tt)))),
  )

-- ---- what the turns need

pub accepted : (grant : Choice) → EachGrants grant → (P : Plan) (B : Bench) → MemoryBytes B.memory → permitted B.machine.rlen B.machine.mlen B.machine.elen ≡ true
    → format B.machine.elen P.sew P.factor ≡ true → kind_fit P ≡ true → lying P B.memory ≡ true → separate (sealed B.seals) P ≡ true → Accepted (job_of grant P B) (sealed B.seals)
unfolding narrow msew type_of lying separate
accepted grant G P B bytes lengths formatted kind l d =
    let n = permitted-lengths B.machine.rlen B.machine.mlen B.machine.elen lengths in
    let f = (formats B.machine.elen P.sew P.factor (permitted-elen B.machine.rlen B.machine.mlen B.machine.elen lengths).0 formatted).0 in
    let t = every-each (insides P B.memory) l in
    let s = separate-is B.seals P d in
    record {
      grants = G B.machine.rule;
      0<narrow = ltb-true 0 (P.sew / 8) f.1.1.1.1.1.1.1.1.0;
      0<rows = n.0;
      row-holds = omega (arith, leb-true (P.sew / 8) 8 f.1.1.1.1.1.1.0, n.1);
      factor≤4 = leb-true P.factor 4 f.1.1.1.1.1.0;
      legal = eqb-true (new_type B.machine.elen (type_of P)) (type_of P) f.0;
      no-mill = not-true (mill (type_of P)) f.1.0;
      sew-is = eqb-true (sew (type_of P)) (narrow P) f.1.1.0;
      width = f.1.1.1.0;
      c-width = f.1.1.1.1.1.1.1.0;
      0<wide = ltb-true 0 (wide P) f.1.1.1.1.0;
      suits = suits_of P kind;
      bytes = bytes.below;
      a_in = t.0;
      b-in = t.1.0;
      c-in = t.1.1.0;
      c-unsealed = (every-each (separates B.seals P) d).1.1.1.0;
      c-rows = s.rows;
      c-a = λ i q g x c. s.from-a i c.0 q g c.1 x c.2;
      c-b = λ i q g x c. s.from-b i c.0 q g c.1 x c.2;
    }
