-- A page that is begun anew has room for a line, since it is as long as it was.
use Rattle.std.proofs.Common.{◌∙◌, arith}
use Rattle.records.proofs.Printer.print_last.Goals as goal

pub invariant_of-self : goal.invariant_of-self
invariant_of-self g c =
    let halves = c.put_last.ensures ∙ c.args.self.now.halves in
    record {
      room = rw c.clear.ensures (omega (arith, halves));
      waiting = rw c.clear.ensures (omega arith);
      halves = rw c.clear.ensures halves;
    }
