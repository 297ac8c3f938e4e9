-- Answer 8: a machine's numbers test by test, then the whole state.
use mathlib.Core.Path.{◌≡◌, refl, sym, ◌∙◌}
use mathlib.Core.Bool.{Bool, true}
use mathlib.Core.List.{List, [], ◌∷◌}
use Prim.Native.Nat.{ℕ, ◌*◌, ◌/◌, min}
use lib.Dec.{leb, eqb}
use borrow.Author.Tests.{eqb-true}
use Rattle.machine.specs.declared.Machine.{Machine}
use Rattle.machine.specs.Tests.{every}
use Rattle.machine.specs.Geometry.{permitted}
use Rattle.machine.specs.Starting.{is_rule}
use Rattle.machine.specs.Setting.{new_type}
use Rattle.unit_settings.specs.Parts.{numbers_sound, Ready}
use lib.Dec.{ltb}
use lib.ListN.{length}
use Rattle.machine.specs.Tests.{all_of}
use Rattle.machine.specs.Faults.{sound}
use Rattle.machine.proofs.TestLaws.{every-each, each-every, same_test}
use Rattle.machine.proofs.NoFault.{sound-is}

-- the tests of the numbers alone
abbrev tests : Machine → List Bool
tests m =
    permitted m.rlen m.mlen m.elen
    ∷ eqb (new_type m.elen m.mtype) m.mtype
    ∷ leb m.tile_m (m.mlen / m.rlen)
    ∷ leb m.tile_k (min (m.mlen / m.rlen) (m.rlen / 8))
    ∷ leb m.tile_n (m.rlen / 8)
    ∷ is_rule m.rule ∷ []

pub numbers-by : (m : Machine) (a b c d e f : Bool)
    → permitted m.rlen m.mlen m.elen ≡ a → eqb (new_type m.elen m.mtype) m.mtype ≡ b
    → leb m.tile_m (m.mlen / m.rlen) ≡ c → leb m.tile_k (min (m.mlen / m.rlen) (m.rlen / 8)) ≡ d
    → leb m.tile_n (m.rlen / 8) ≡ e → is_rule m.rule ≡ f
    → every (a ∷ b ∷ c ∷ d ∷ e ∷ f ∷ []) ≡ numbers_sound m
numbers-by m a b c d e f ha hb hc hd he hf = rw (ha, hb, hc, hd, he, hf)

pub sound-by : (m : Machine) (regs marks : List ℕ) (a b c d : Bool) → numbers_sound m ≡ a → eqb (length regs) (2 * m.mlen) ≡ b → eqb (length marks) (2 * m.mlen) ≡ c
    → all_of (λ mark. ltb mark 2) marks ≡ d → every (a ∷ b ∷ c ∷ d ∷ []) ≡ sound m regs marks
unfolding sound
sound-by m regs marks a b c d ha hb hc hd = same_test (every (a ∷ b ∷ c ∷ d ∷ [])) (sound m regs marks)
    (λ h.
    let t = every-each (a ∷ b ∷ c ∷ d ∷ []) h in
    let n = every-each (tests m) (ha ∙ t.0) in
    each-every (all m) (n.0, (hb ∙ t.1.0, (hc ∙ t.1.1.0, (n.1.0, (n.1.1.0, (n.1.1.1.0, (n.1.1.1.1.0, (n.1.1.1.1.1.0, (hd ∙ t.1.1.1.0, tt))))))))))
    (λ h.
    let t = every-each (all m) h in
    each-every (a ∷ b ∷ c ∷ d ∷ []) (
      sym ha ∙ each-every (tests m) (t.0, (t.1.1.1.0, (t.1.1.1.1.0, (t.1.1.1.1.1.0, (t.1.1.1.1.1.1.0, (t.1.1.1.1.1.1.1.0, tt)))))),
      (sym hb ∙ t.1.0, (sym hc ∙ t.1.1.0, (sym hd ∙ t.1.1.1.1.1.1.1.1.0, tt))),
    ))
  where
    all : Machine → List Bool
    all m =
        permitted m.rlen m.mlen m.elen
        ∷ eqb (length regs) (2 * m.mlen)
        ∷ eqb (length marks) (2 * m.mlen)
        ∷ eqb (new_type m.elen m.mtype) m.mtype
        ∷ leb m.tile_m (m.mlen / m.rlen)
        ∷ leb m.tile_k (min (m.mlen / m.rlen) (m.rlen / 8))
        ∷ leb m.tile_n (m.rlen / 8)
        ∷ is_rule m.rule
        ∷ all_of (λ mark. ltb mark 2) marks ∷ []

pub numbers-permitted : (m : Machine) → numbers_sound m ≡ true → permitted m.rlen m.mlen m.elen ≡ true
numbers-permitted m h = (every-each (tests m) h).0

pub numbers-ready : (m : Machine) → numbers_sound m ≡ true → Ready m
numbers-ready m h = record { lengths = numbers-permitted m h; type-arises = eqb-true (new_type m.elen m.mtype) m.mtype (every-each (tests m) h).1.0 }

-- the numbers of a machine that is not at fault
pub sound-numbers : (m : Machine) (regs marks : List ℕ) → sound m regs marks ≡ true → numbers_sound m ≡ true
sound-numbers m regs marks h =
    let e = sound-by m regs marks (numbers_sound m) (eqb (length regs) (2 * m.mlen)) (eqb (length marks) (2 * m.mlen)) (all_of (λ mark. ltb mark 2) marks) refl refl refl refl in
    (every-each (numbers_sound m ∷ eqb (length regs) (2 * m.mlen) ∷ eqb (length marks) (2 * m.mlen) ∷ all_of (λ mark. ltb mark 2) marks ∷ []) (e ∙ h)).0

pub ready : (m : Machine) (regs marks : List ℕ) → sound m regs marks ≡ true → Ready m
ready m regs marks h = let s = sound-is m regs marks h in record { lengths = s.lengths; type-arises = s.state.type-arises }
