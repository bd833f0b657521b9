-- What a token bucket holds, in grains, and how long it must wait (01, Meters; 01, Schedulers).
-- A grain is 1/(8 * 10^9) octet: in d ns a rate of r adds r * d / (8 * 10^9) octets, which is r * d grains.
use Rattle.std.specs.Prelude.{ℕ, ◌+◌, ◌-◌, ◌*◌, ◌/◌, min}
use Rattle.bucket.specs.declared.Octets.{Octets}

-- `octets` in grains
abbrev pub grains : ℕ → ℕ
grains octets = octets * 8_000_000_000

-- what a full bucket holds, in grains: "the bucket starts full at CBS octets"; a burst above 1,000,000 octets, which no record has, counts as that
abbrev pub full_of : Octets → ℕ
full_of burst = grains (min burst.0 1_000_000)

-- `d` ns after it held `level`, at `rate` grains a ns, and never above `cap`
abbrev pub grown : ℕ → ℕ → ℕ → ℕ → ℕ
grown level rate cap d = min cap (level + rate * d)

-- n divided by r, rounded up
abbrev pub ceiling : ℕ → ℕ → ℕ
ceiling n r = (n + (r - 1)) / r

-- the least number of whole ns until `need` is there: what is lacking, divided by the rate and rounded up
abbrev pub wait_for : ℕ → ℕ → ℕ → ℕ
wait_for level rate need = ceiling (need - level) rate
