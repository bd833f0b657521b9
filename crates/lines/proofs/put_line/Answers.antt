-- `lines::put_line` meets its contract: each form, filled in, is the line of its kind. Assumes nothing.
use Rattle.text.proofs.Laws.{written_append}
use Rattle.lines.specs.Meaning.{line_of}
use Rattle.lines.specs.Form.{filled_in, shown_as}
use Rattle.lines.proofs.Form.{filter_parts}
use Rattle.lines.proofs.put_line.Goals as goal

pub returns-in-Port : goal.returns-in-Port
unfolding line_of filled_in shown_as
returns-in-Port g c = rw c.in-Port.is c.put_form.ensures

pub returns-in-Filter : goal.returns-in-Filter
returns-in-Filter g c =
    rw (c.in-Filter.is, ← filter_parts c.in-Filter.r) (simp written_append (rw (← c.put_form-in-Filter.ensures, ← c.put_handle.ensures) c.put_form-in-Filter-2.ensures))

pub returns-in-Gate : goal.returns-in-Gate
unfolding line_of filled_in shown_as
returns-in-Gate g c = rw c.in-Gate.is c.put_form-in-Gate.ensures

pub returns-in-GateEntry : goal.returns-in-GateEntry
unfolding line_of filled_in shown_as
returns-in-GateEntry g c = rw c.in-GateEntry.is c.put_form-in-GateEntry.ensures

pub returns-in-Meter : goal.returns-in-Meter
unfolding line_of filled_in shown_as
returns-in-Meter g c = rw c.in-Meter.is c.put_form-in-Meter.ensures

pub returns-in-Group : goal.returns-in-Group
unfolding line_of filled_in shown_as
returns-in-Group g c = rw c.in-Group.is c.put_form-in-Group.ensures

pub returns-in-Scheduler : goal.returns-in-Scheduler
unfolding line_of filled_in shown_as
returns-in-Scheduler g c = rw c.in-Scheduler.is c.put_form-in-Scheduler.ensures

pub returns-in-Start : goal.returns-in-Start
unfolding line_of filled_in shown_as
returns-in-Start g c = rw c.in-Start.is c.put_form-in-Start.ensures

pub returns-in-Arrival : goal.returns-in-Arrival
unfolding line_of filled_in shown_as
returns-in-Arrival g c = rw c.in-Arrival.is c.put_form-in-Arrival.ensures

pub returns-in-Clear : goal.returns-in-Clear
unfolding line_of filled_in shown_as
returns-in-Clear g c = rw c.in-Clear.is c.put_form-in-Clear.ensures
