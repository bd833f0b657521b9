-- The length of a frame (01, Schedulers): "Length = MSDU + port overhead".
use Rattle.std.specs.Prelude.{ℕ, ◌+◌}
use Rattle.bucket.specs.declared.Octets.{Octets}

abbrev pub length_of : ℕ → ℕ → ℕ
length_of msdu overhead = msdu + overhead

-- in octets, as a scheduler takes it
abbrev pub frame_of : ℕ → ℕ → Octets
frame_of msdu overhead = record { 0 = length_of msdu overhead }
