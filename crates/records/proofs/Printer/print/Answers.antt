-- A page is as long after a line as before it, so where more than half of it is left, less than half waits; and one that is begun anew has room for a line.
use Rattle.std.proofs.Common.{◌≡◌, ℕ, ◌+◌, List, length, ap, ◌∙◌, arith}
use Rattle.text.specs.Meaning.{Page, written}
use Rattle.text.proofs.Room.{length_written}
use Rattle.records.specs.Room.{half}
use Rattle.records.proofs.Printer.print.Goals as goal

same_length : (before after : Page) (line : List ℕ) → after ≡ written before line → length before.octets ≡ half + half → length after.octets ≡ half + half
same_length before after line e l = ap (λ (w : Page). length w.octets) e ∙ length_written line before ∙ l

pub invariant_of-self : goal.invariant_of-self
invariant_of-self g c =
    let halves = same_length c.args.self.now.page c.put_line.new.page _ c.put_line.ensures c.args.self.now.halves in
    record { room = omega (arith, halves, c.room.ensures, c.if-room-gt-HALF.true); waiting = omega (arith, halves, c.room.ensures, c.if-room-gt-HALF.true); halves = halves }

pub invariant_of-self-2 : goal.invariant_of-self-2
invariant_of-self-2 g c =
    let halves = same_length c.args.self.now.page c.put_line.new.page _ c.put_line.ensures c.args.self.now.halves in
    record {
      room = rw c.clear.ensures (omega (arith, halves));
      waiting = rw c.clear.ensures (omega arith);
      halves = rw c.clear.ensures halves;
    }
