-- The text of a row: the reader finds the values with which a line is that text, and else the place at which it leaves it.
use Rattle.numbers.proofs.Kit.{◌≡◌, refl, sym, ap, ap₂, ◌∙◌, subst, Bool, true, false, cond, not, ◌&&◌, List, [], ◌∷◌, ◌++◌, append_assoc, ℕ, suc, ◌+◌}
use Rattle.numbers.proofs.Kit.{◌<◌, arith, leb, eqb, length, take, drop, length-append, take-append-add, eqb-true, eqb-false, leb-true, not-true}
use Rattle.machine.proofs.TestLaws.{and_left, and_right, false-true}
use Rattle.numbers_format.specs.Formats.{Ends}
use Rattle.numbers_format.specs.Parser.{Got, Parsed, later}
use Rattle.numbers_format.specs.Parser.Got.{value, fault}
use Rattle.numbers_format.specs.Parser.Parsed.{whole, stopped}
use Rattle.text_assembly.specs.Lines.{Operand, Piece, below, wide, small, letter, operand, operand_count, shown, operands_in, fill}
use Rattle.text_assembly.specs.Reading.{is_digit, read_operand, with_first, read_pieces}
use Rattle.text_assembly.proofs.DecimalLaws.{Digit, Clean, digit-true, true-digit}
use Rattle.text_assembly.proofs.OperandLaws.{Some, Valued, Stuck, Found, operand-right, operand-apart}

-- ---- texts in which no digit follows an operand

abbrev pub follows : List Piece → Bool
follows [] = true
follows (letter c ∷ ps) = not (is_digit c)
follows (operand o ∷ ps) = false

abbrev pub has_some : Operand → Bool
has_some (below n) = leb 1 n
has_some wide = true
has_some small = true

abbrev pub tidy : List Piece → Bool
tidy [] = true
tidy (letter c ∷ ps) = tidy ps
tidy (operand o ∷ ps) = has_some o && (follows ps && tidy ps)

-- a value for each operand
abbrev pub Fits : List Operand → List ℕ → Type 0
Fits [] [] = Unit {0}
Fits [] (v ∷ vs) = ⊥
Fits (o ∷ os) [] = ⊥
Fits (o ∷ os) (v ∷ vs) = (v < operand_count o) × Fits os vs

abbrev pub Has : List Piece → List ℕ → List ℕ → Type 0
Has ps s vs = Fits (operands_in ps) vs × (s ≡ fill ps vs)

abbrev pub Texts : List Piece → List ℕ → Type 0
Texts ps s = (vs : List ℕ) × Has ps s vs

some_is : (o : Operand) → has_some o ≡ true → Some o
some_is (below n) h = leb-true 1 n h
some_is wide h = tt
some_is small h = tt

some-value : (o : Operand) → Some o → 0 < operand_count o
some-value (below n) h = h
some-value wide h = omega arith
some-value small h = omega arith

some-values : (ps : List Piece) → tidy ps ≡ true → (vs : List ℕ) × Fits (operands_in ps) vs
some-values [] h = ([], tt)
some-values (letter c ∷ ps) h = some-values ps h
some-values (operand o ∷ ps) h =
    let r = some-values ps (and_right (follows ps) (tidy ps) (and_right (has_some o) (follows ps && tidy ps) h)) in
    (0 ∷ r.0, (some-value o (some_is o (and_left (has_some o) (follows ps && tidy ps) h)), r.1))

fill-clean : (ps : List Piece) (vs : List ℕ) → follows ps ≡ true → Clean (fill ps vs)
fill-clean [] vs h = tt
fill-clean (letter c ∷ ps) vs h = λ d. false-true (sym (not-true (is_digit c) h) ∙ true-digit c d)
fill-clean (operand o ∷ ps) vs h = absurd (false-true h)

-- ---- behind an operand

-- x begins with the byte with which t does, or is empty
abbrev Near : List ℕ → List ℕ → Type 0
Near [] t = Unit {0}
Near (b ∷ x) [] = ⊥
Near (b ∷ x) (c ∷ t) = b ≡ c

module _ (o : Operand) (s : List ℕ) (v l : ℕ) (r : Valued o s v l) where
  behind : (x : List ℕ) → Near x (drop l s) → (w : ℕ) (f : List ℕ) → w < operand_count o → Clean f → shown o v ++ x ≡ shown o w ++ f → (v ≡ w) × (x ≡ f)
  behind [] n w f hw cf q = operand-apart o v w [] f r.permitted hw tt cf q
  behind (b ∷ x) n w f hw cf q = go (drop l s) refl n (is_digit b) refl
    where
      go : (t : List ℕ) → drop l s ≡ t → Near (b ∷ x) t → (d : Bool) → is_digit b ≡ d → (v ≡ w) × (b ∷ x ≡ f)
      go [] e n d h = absurd n
      go (c ∷ t) e n true h = absurd (r.longest c t e (subst Digit n (digit-true b h)) w x f hw cf (ap (λ (z : ℕ). shown o v ++ (z ∷ x)) (sym n) ∙ q))
      go (c ∷ t) e n false h = operand-apart o v w (b ∷ x) f r.permitted hw (λ k. false-true (sym h ∙ true-digit b k)) cf q

near-self : (t : List ℕ) → Near t t
near-self [] = tt
near-self (b ∷ t) = refl

near-take : (p : ℕ) (t u : List ℕ) → p < length t → Near (take (suc p) t ++ u) t
near-take p [] u h = absurd (omega arith)
near-take p (b ∷ t) u h = refl

-- ---- the reader

abbrev pub PiecesRight : List Piece → List ℕ → Parsed (List ℕ) → Type 0
PiecesRight ps s (whole vs) = Has ps s vs
PiecesRight ps s (stopped p) = Ends (Texts ps) s p × ¬ Texts ps s

letter-on : (c : ℕ) (ps : List Piece) (s : List ℕ) (q : Parsed (List ℕ)) → PiecesRight ps s q → PiecesRight (letter c ∷ ps) (c ∷ s) (later 1 q)
letter-on c ps s (whole vs) h = (h.0, ap (λ (z : List ℕ). c ∷ z) h.1)
letter-on c ps s (stopped p) h =
    let e : 1 + p ≡ suc p = omega arith in (
      subst (λ (z : ℕ). Ends (Texts (letter c ∷ ps)) (c ∷ s) z) (sym e) (record {
        there = omega (arith, h.0.there);
        goes_on = (h.0.goes_on.0, (h.0.goes_on.1.0, (h.0.goes_on.1.1.0, ap (λ (z : List ℕ). c ∷ z) h.0.goes_on.1.1.1)));
        stops = λ k u a. h.0.stops (omega arith) u (a.0, (a.1.0, tails a.1.1));
      }),
      λ a. h.1 (a.0, (a.1.0, tails a.1.1)),
    )
  where
    tails : {a b : List ℕ} → c ∷ a ≡ c ∷ b → a ≡ b
    tails q = cc

-- at the very front
front : (ps : List Piece) (s : List ℕ) → tidy ps ≡ true → (0 < length s → (u : List ℕ) → ¬ Texts ps (take 1 s ++ u)) → ¬ Texts ps s → PiecesRight ps s (stopped 0)
front ps s h no_more never =
    let w = some-values ps h in
    (record { there = omega arith; goes_on = (fill ps w.0, (w.0, (w.1, refl))); stops = no_more }, never)

operand_on : (o : Operand) (ps : List Piece) (s : List ℕ) (v l : ℕ) → follows ps ≡ true → Valued o s v l → (q : Parsed (List ℕ)) → PiecesRight ps (drop l s) q
    → PiecesRight (operand o ∷ ps) s (with_first v (later l q))
operand_on o ps s v l f r (whole vs) h = ((r.permitted, h.0), r.starts ∙ ap (λ (z : List ℕ). shown o v ++ z) h.1)
operand_on o ps s v l f r (stopped p) h =
    let t : List ℕ = drop l s in
    let a : List ℕ = shown o v in
    let size : length s ≡ l + length t = ap length r.starts ∙ length-append a t ∙ ap (λ (z : ℕ). z + length t) (sym r.long) in
    let cut : (n : ℕ) → take (l + n) s ≡ a ++ take n t = λ n. ap₂ (λ (x : ℕ) (y : List ℕ). take (x + n) y) r.long r.starts ∙ take-append-add a t n in
    let next : suc (l + p) ≡ l + suc p = omega arith in (
      record {
        there = omega (arith, h.0.there);
        goes_on = (
          h.0.goes_on.0,
          (
            v ∷ h.0.goes_on.1.0,
            (
              (r.permitted, h.0.goes_on.1.1.0),
              ap (λ (z : List ℕ). z ++ h.0.goes_on.0) (cut p) ∙ append_assoc a (take p t) h.0.goes_on.0 ∙ ap (λ (z : List ℕ). a ++ z) h.0.goes_on.1.1.1,
            ),
          ),
        );
        stops = λ k u w.
            after (take (suc p) t ++ u) (near-take p t u (omega arith)) (λ z. h.0.stops (omega arith) u z)
            (moved (sym (append_assoc a (take (suc p) t) u) ∙ ap (λ (z : List ℕ). z ++ u) (sym (cut (suc p))) ∙ ap (λ (z : ℕ). take z s ++ u) (sym next)) w);
      },
      λ w. after t (near-self t) h.1 (moved (sym r.starts) w),
    )
  where
    moved : {x y : List ℕ} → x ≡ y → Texts (operand o ∷ ps) y → Texts (operand o ∷ ps) x
    moved e w = subst (Texts (operand o ∷ ps)) (sym e) w

    after : (x : List ℕ) → Near x (drop l s) → ¬ Texts ps x → Texts (operand o ∷ ps) (shown o v ++ x) → ⊥
    after x n none ([], (ft, e)) = absurd ft
    after x n none (w ∷ ws, (ft, e)) =
        let same = behind o s v l r x n w (fill ps ws) ft.0 (fill-clean ps ws f) e in
        none (ws, (ft.1, same.1))

operand_stuck : (o : Operand) (ps : List Piece) (s : List ℕ) (p : ℕ) → follows ps ≡ true → tidy ps ≡ true → Stuck o s p → PiecesRight (operand o ∷ ps) s (stopped p)
operand_stuck o ps s p f h r =
    let w = some-values ps h in (
      record {
        there = r.there;
        goes_on = (
          r.goes_on.1 ++ fill ps w.0,
          (
            r.goes_on.0 ∷ w.0,
            (
              (r.goes_on.2, w.1),
              sym (append_assoc (take p s) r.goes_on.1 (fill ps w.0)) ∙ ap (λ (z : List ℕ). z ++ fill ps w.0) r.goes_on.3,
            ),
          ),
        );
        stops = λ k u a. here (λ w ws wl e. r.stops k u w (fill ps ws) wl (fill-clean ps ws f) e) a;
      },
      λ a. here (λ w ws wl e. r.none w (fill ps ws) wl (fill-clean ps ws f) e) a,
    )
  where
    here : {x : List ℕ} → ((w : ℕ) (ws : List ℕ) → w < operand_count o → ¬ (x ≡ shown o w ++ fill ps ws)) → ¬ Texts (operand o ∷ ps) x
    here g ([], (ft, e)) = absurd ft
    here g (w ∷ ws, (ft, e)) = g w ws ft.0 e

pub pieces-right : (ps : List Piece) → tidy ps ≡ true → (s : List ℕ) → PiecesRight ps s (read_pieces ps s)
pieces-right [] h [] = (tt, refl)
pieces-right [] h (b ∷ s) = front [] (b ∷ s) h (λ k u a. never b u a.0 a.1.1) (λ a. never b s a.0 a.1.1)
  where
    never : (b : ℕ) (u vs : List ℕ) → ¬ (b ∷ u ≡ fill [] vs)
    never b u vs e = let z : ◌≡◌ {A = ℕ} 0 1 = cc in absurd (omega arith)
pieces-right (letter c ∷ ps) h [] = front (letter c ∷ ps) [] h (λ k. absurd (omega arith)) (λ a. never a.0 a.1.1)
  where
    never : (vs : List ℕ) → ¬ ([] ≡ fill (letter c ∷ ps) vs)
    never vs e = let z : ◌≡◌ {A = ℕ} 0 1 = cc in absurd (omega arith)
pieces-right (letter c ∷ ps) h (b ∷ s) = go (pieces-right ps h s) (eqb b c) refl
  where
    go : PiecesRight ps s (read_pieces ps s) → (t : Bool) → eqb b c ≡ t → PiecesRight (letter c ∷ ps) (b ∷ s) (cond t (later 1 (read_pieces ps s)) (stopped 0))
    go ih true e = subst (λ (z : ℕ). PiecesRight (letter c ∷ ps) (z ∷ s) (later 1 (read_pieces ps s))) (sym (eqb-true b c e)) (letter-on c ps s (read_pieces ps s) ih)
    go ih false e = front (letter c ∷ ps) (b ∷ s) h (λ k u a. eqb-false b c e (heads a.1.1)) (λ a. eqb-false b c e (heads a.1.1))
      where
        heads : {u v : List ℕ} → b ∷ u ≡ c ∷ v → b ≡ c
        heads q = cc
pieces-right (operand o ∷ ps) h s = go (λ l. pieces-right ps t (drop l s)) (read_operand o s) (operand-right o (some_is o (and_left (has_some o) (follows ps && tidy ps) h)) s)
  where
    f : follows ps ≡ true
    f = and_left (follows ps) (tidy ps) (and_right (has_some o) (follows ps && tidy ps) h)

    t : tidy ps ≡ true
    t = and_right (follows ps) (tidy ps) (and_right (has_some o) (follows ps && tidy ps) h)

    go : ((l : ℕ) → PiecesRight ps (drop l s) (read_pieces ps (drop l s))) → (g : Got) → Found o s g
        → PiecesRight (operand o ∷ ps) s (elim g [ value v l ↦ with_first v (later l (read_pieces ps (drop l s))) | fault p ↦ stopped p ])
    go ih (value v l) r = operand_on o ps s v l f r (read_pieces ps (drop l s)) (ih l)
    go ih (fault p) r = operand_stuck o ps s p f t r

-- a line is a row's text with one list of values
pub values_one : (ps : List Piece) → tidy ps ≡ true → (vs ws : List ℕ) → Fits (operands_in ps) vs → Fits (operands_in ps) ws → fill ps vs ≡ fill ps ws → vs ≡ ws
values_one [] h [] [] a b q = refl
values_one [] h [] (w ∷ ws) a b q = absurd b
values_one [] h (v ∷ vs) ws a b q = absurd a
values_one (letter c ∷ ps) h vs ws a b q = values_one ps h vs ws a b (let z : fill ps vs ≡ fill ps ws = cc in z)
values_one (operand o ∷ ps) h [] ws a b q = absurd a
values_one (operand o ∷ ps) h (v ∷ vs) [] a b q = absurd b
values_one (operand o ∷ ps) h (v ∷ vs) (w ∷ ws) a b q =
    let k = and_right (has_some o) (follows ps && tidy ps) h in
    let f = and_left (follows ps) (tidy ps) k in
    let r = operand-apart o v w (fill ps vs) (fill ps ws) a.0 b.0 (fill-clean ps vs f) (fill-clean ps ws f) q in
    ap₂ (λ (x : ℕ) (l : List ℕ). x ∷ l) r.0 (values_one ps (and_right (follows ps) (tidy ps) k) vs ws a.1 b.1 r.1)
