-- The program's name, and behind it which stream has failed.
use Rattle.std.proofs.Common.{sym}
use Rattle.text.proofs.Laws.{written_append, written_none}
use Rattle.pieces.specs.Meaning.{complaint_of}
use Rattle.pieces.proofs.complaint.Goals as goal

pub returns-in-Input : goal.returns-in-Input
unfolding complaint_of
returns-in-Input g c = rw (c.in-Some.is, c.in-Input.is, written_append, ← c.put_octets.ensures) c.put_octets-in-Input.ensures

pub returns-in-Output : goal.returns-in-Output
unfolding complaint_of
returns-in-Output g c = rw (c.in-Some.is, c.in-Output.is, written_append, ← c.put_octets.ensures) c.put_octets-in-Output.ensures

pub returns-in_default : goal.returns-in_default
unfolding complaint_of
returns-in_default g c = rw c.in_default.is (sym (written_none _))
