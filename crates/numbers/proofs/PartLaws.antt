-- A row writer on a part of a list that starts anywhere: writing past a front leaves it.
use Rattle.numbers.proofs.Kit.{◌≡◌, ap, subst, List, [], ◌∷◌, ◌++◌, ℕ, ◌+◌, ◌*◌, ◌≤◌, zero-add, suc-add, add_assoc, arith, length, set, take, drop}
use Rattle.numbers.proofs.Kit.{take-append-drop, length-take-le}
use Rattle.numbers.proofs.UptoLaws.{upto-inside}
use Rattle.numbers.specs.Tile.{put_le, put_row, mark_row, byte_of}

pub set_past : (front ys : List ℕ) (i a : ℕ) → set (front ++ ys) (length front + i) a ≡ front ++ set ys i a
set_past [] ys i a = rw zero-add
set_past (x ∷ front) ys i a = rw suc-add (ap (λ (l : List ℕ). x ∷ l) (set_past front ys i a))

pub put_le-past : (front ys : List ℕ) (p w v : ℕ) → put_le (length front + p) w v (front ++ ys) ≡ front ++ put_le p w v ys
unfolding put_le
put_le-past front ys p w v =
    upto-inside (λ (l : List ℕ). front ++ l) w (λ b l. set l (length front + p + b) (byte_of v b)) (λ b l. set l (p + b) (byte_of v b)) ys
    (λ b l. rw add_assoc (set_past front l (p + b) (byte_of v b)))

pub put_row-past : (front ys : List ℕ) (p cols w : ℕ) (value : ℕ → ℕ) → put_row (length front + p) cols w value (front ++ ys) ≡ front ++ put_row p cols w value ys
unfolding put_row
put_row-past front ys p cols w value =
    upto-inside (λ (l : List ℕ). front ++ l) cols (λ j l. put_le (length front + p + j * w) w (value j) l) (λ j l. put_le (p + j * w) w (value j) l) ys
    (λ j l. rw add_assoc (put_le-past front l (p + j * w) w (value j)))

pub mark_row-past : (front ys : List ℕ) (p n : ℕ) → mark_row (length front + p) n (front ++ ys) ≡ front ++ mark_row p n ys
unfolding mark_row
mark_row-past front ys p n =
    upto-inside (λ (l : List ℕ). front ++ l) n (λ b l. set l (length front + p + b) 1) (λ b l. set l (p + b) 1) ys
    (λ b l. rw add_assoc (set_past front l (p + b) 1))

-- the row writer, lent the part from p on
pub put_row-part : (xs : List ℕ) (p cols w : ℕ) (value : ℕ → ℕ) → p ≤ length xs → put_row p cols w value xs ≡ take p xs ++ put_row 0 cols w value (drop p xs)
put_row-part xs p cols w value h =
    let e : length (take p xs) + 0 ≡ p = omega (arith, length-take-le p xs h) in
    subst (λ (q : ℕ). put_row q cols w value xs ≡ take p xs ++ put_row 0 cols w value (drop p xs)) e
    (subst (λ (l : List ℕ). put_row (length (take p xs) + 0) cols w value l ≡ take p xs ++ put_row 0 cols w value (drop p xs)) (take-append-drop p xs)
    (put_row-past (take p xs) (drop p xs) 0 cols w value))
