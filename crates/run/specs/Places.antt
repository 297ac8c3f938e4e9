-- One word at a time: the place of a run, the word handed out there, and the place after it.
use Rattle.std.specs.Prelude.{◌+◌, ◌-◌}
use Rattle.numbers.specs.Kit.{cond, Option, none, some, ℕ, ltb}
use Rattle.run.specs.declared.Place.{Place}
use Rattle.run.specs.declared.Place.TheVariants.{AtType, AtM, AtN, AtClear, AtK, AtA, AtB, AtMultiply, AtStore, AtEnd}
use Rattle.run.specs.Words.{Op, set_type, set_m, set_k, set_n, clear, load_a, load_b, multiply, store, Shape, size_m, size_n, size_k}

-- where a loop goes on: at its next block, or past it
abbrev pub head_m : Shape → ℕ → Place
head_m S i = cond (ltb i S.m) (AtM i) AtEnd

abbrev pub head_n : Shape → ℕ → ℕ → Place
head_n S i j = cond (ltb j S.n) (AtN i j) (head_m S (i + size_m S i))

abbrev pub head_k : Shape → ℕ → ℕ → ℕ → Place
head_k S i j s = cond (ltb s S.k) (AtK i j s) (AtStore i j)

abbrev pub next : Shape → Place → Place
next S AtType = head_m S 0
next S (AtM i) = head_n S i 0
next S (AtN i j) = AtClear i j
next S (AtClear i j) = head_k S i j 0
next S (AtK i j s) = AtA i j s
next S (AtA i j s) = AtB i j s
next S (AtB i j s) = AtMultiply i j s
next S (AtMultiply i j s) = head_k S i j (s + size_k S s)
next S (AtStore i j) = head_n S i (j + size_n S j)
next S AtEnd = AtEnd

-- the word handed out at a place: none at the end
abbrev pub word_at : Shape → Place → Option Op
word_at S AtType = some set_type
word_at S (AtM i) = some (set_m (S.m - i))
word_at S (AtN i j) = some (set_n (S.n - j))
word_at S (AtClear i j) = some clear
word_at S (AtK i j s) = some (set_k (S.k - s))
word_at S (AtA i j s) = some (load_a i s)
word_at S (AtB i j s) = some (load_b s j)
word_at S (AtMultiply i j s) = some multiply
word_at S (AtStore i j) = some (store i j)
word_at S AtEnd = none
