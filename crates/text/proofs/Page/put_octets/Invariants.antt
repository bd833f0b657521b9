-- `text::Page::put_octets`: the octets before the one at hand are put.
use Rattle.std.proofs.Common.{◌≡◌, take}
use Rattle.text.specs.Meaning.{written}
use Rattle.text.proofs.Page.put_octets.Given as goal

abbrev pub invariant-loop-octet : goal.invariant-loop-octet
invariant-loop-octet g l = l.self ≡ written l.initial.self (take l.octet-index l.octets)
