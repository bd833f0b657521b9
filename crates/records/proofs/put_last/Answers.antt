-- A page is as long after a line as before it.
use Rattle.std.proofs.Common.{length, ap, ◌∙◌}
use Rattle.text.specs.Meaning.{Page}
use Rattle.text.proofs.Room.{length_written}
use Rattle.records.proofs.put_last.Goals as goal

pub returns-in-Err-Refused : goal.returns-in-Err-Refused
returns-in-Err-Refused g c = ap (λ (w : Page). length w.octets) c.put_refused.ensures ∙ length_written _ _
