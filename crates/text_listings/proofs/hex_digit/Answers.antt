use Rattle.numbers.proofs.Kit.{◌≡◌, ap, ℕ, ◌*◌, ◌/◌, ◌%◌, ◌^◌, ◌<◌}
use Rattle.text_listings.proofs.ListLaws.{sixteen, ten-digit, letter-digit}
use Rattle.text_listings.proofs.hex_digit.Goals as goal

value : (word n : ℕ) → n < 8 → word / 2 ^ (4 * n) % 16 ≡ word / 16 ^ n % 16
value word n h = ap (λ (z : ℕ). word / z % 16) (sixteen n h)

pub returns-then-d-lt10 : goal.returns-then-d-lt10
returns-then-d-lt10 c = ten-digit _ _ (value c.args.word c.args.n c.requires) c.if-d-lt10.true

pub returns-else-d-lt10 : goal.returns-else-d-lt10
returns-else-d-lt10 c = letter-digit _ _ (value c.args.word c.args.n c.requires) c.if-d-lt10.false
