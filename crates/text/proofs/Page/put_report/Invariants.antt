-- `text::Page::put_report`: what the rows before the one at hand say is put.
use Rattle.std.proofs.Common.{◌≡◌}
use Rattle.bank.specs.Meaning.{rows_of}
use Rattle.bank.specs.Meaning as view
use Rattle.text.specs.Meaning.{written, up_to, filter_items_of, gate_items_of, meter_item_of, port_item_of}
use Rattle.text.proofs.Page.put_report.Given as goal

abbrev pub invariant-loop-filter : goal.invariant-loop-filter
invariant-loop-filter g l = l.self ≡ written l.initial.self (up_to (λ i. filter_items_of i (view.counters (rows_of l.fn.bank) i)) l.filter)

abbrev pub invariant-loop-gate : goal.invariant-loop-gate
invariant-loop-gate g l = l.self ≡ written l.initial.self (up_to (λ i. gate_items_of i (view.gate (rows_of l.fn.bank) i)) l.gate)

abbrev pub invariant-loop-meter : goal.invariant-loop-meter
invariant-loop-meter g l = l.self ≡ written l.initial.self (up_to (λ i. meter_item_of i (view.meter (rows_of l.fn.bank) i)) l.meter)

abbrev pub invariant-loop-port : goal.invariant-loop-port
invariant-loop-port g l = l.self ≡ written l.initial.self (up_to (λ i. port_item_of i (view.port (rows_of l.fn.bank) i)) l.port)
