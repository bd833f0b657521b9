-- `lines::put_form`. Invariant: what is left of the form, filled with the values that are left, put on the page of now, is all of it put on the first page.
use Rattle.std.proofs.Common.{◌≡◌, drop}
use Rattle.text.specs.Meaning.{written}
use Rattle.lines.specs.Form.{filled_in}
use Rattle.lines.proofs.put_form.Given as goal

abbrev pub invariant-loop-c : goal.invariant-loop-c
invariant-loop-c g l = written l.page (filled_in (drop l.c-index l.form) l.left.rest.now) ≡ written l.fn.page (filled_in l.form l.values)
