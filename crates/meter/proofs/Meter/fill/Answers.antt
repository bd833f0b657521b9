-- `meter::Meter::fill` meets its contract: what is computed in 64 bits is the exact fill, by the laws of `Fill`. A bucket's level counts there as part of
-- what it gets, so each begins at 0.
-- Assumes nothing.
use Rattle.std.specs.Prelude.{ℕ, ◌+◌, ◌-◌, ◌*◌, min, Bool, true, false, ◌≡◌, refl}
use Rattle.std.proofs.Common.{arith}
use Rattle.logic.specs.Laws.{contrary}
use Rattle.bucket.specs.Meaning.{grains}
use Rattle.meter.specs.Meaning.{spilt}
use Rattle.meter.proofs.Fill.{fill_committed, fill_excess, filled_is}
use Rattle.meter.proofs.Meter.fill.Goals.{then-self, else-self}
use Rattle.meter.proofs.Meter.fill.Goals as goal

excess_filled : (C E x gain : ℕ) → gain ≡ min (C + E) (0 + x) → (coupling : Bool) (y own : ℕ) → own ≡ min E (0 + y) → min E (own + spilt coupling (gain - C)) ≡ min E (y + spilt coupling (x - C))
excess_filled C E x gain gained true y own owned = omega (arith, fill_excess C 0 E x gain gained true 0 y own owned)
excess_filled C E x gain gained false y own owned = omega (arith, fill_excess C 0 E x gain gained false 0 y own owned)

spilt_with : (coupling : Bool) (n over : ℕ) → coupling ≡ true → over ≡ n → over ≡ spilt coupling n
spilt_with true n over t e = e
spilt_with false n over t e = contrary false t refl

spilt_without : (coupling : Bool) (n over : ℕ) → coupling ≡ false → over ≡ 0 → over ≡ spilt coupling n
spilt_without true n over f e = contrary true refl f
spilt_without false n over f e = e

pub returns : goal.returns
returns c =
    let a = c.args in
    let m = a.self in
    let d = a.time - m.last in
    let C = grains m.cbs.0 in
    let E = grains m.ebs.0 in
    let x = m.committed + m.cir.0 * d in
    let y = m.excess + m.eir.0 * d in
    let gain = c.grow-committed in
    let own = c.grow-excess in
    let gained : gain.result ≡ min (C + E) (0 + x) = omega (arith, gain.ensures) in
    let owned : own.result ≡ min E (0 + y) = omega (arith, own.ensures) in
    let over : c.if-self.over ≡ spilt m.coupling (gain.result - C) = elim c.if-self.branch [
      | then-self w ↦ spilt_with m.coupling (gain.result - C) c.if-self.over w.if-self.true (omega arith)
      | else-self w ↦ spilt_without m.coupling (gain.result - C) c.if-self.over w.if-self.false (omega arith)
    ] in
    filled_is m a.time c.min.result c.min-2.result
    (omega (arith, c.min.ensures, fill_committed C 0 E x gain.result gained))
    (omega (arith, c.min-2.ensures, over, excess_filled C E x gain.result gained m.coupling y own.result owned))
