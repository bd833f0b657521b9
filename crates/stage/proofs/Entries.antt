-- A gate entry that is taken: the octets that follow its kind, as many as the answer says less one, are what `record::body` shows and what is kept.
use Rattle.std.specs.Prelude.{ℕ, ◌+◌, ◌<◌, List, ◌≡◌, refl, length, take, drop, Ok}
use Rattle.std.proofs.Common.{sym, ap, ◌∙◌, eq-eqb}
use Rattle.sizes.specs.Meaning.{filter_count, entry_count, entry_octets, lists_octets}
use Rattle.record.specs.declared.GateEntryRecord.{GateEntryRecord}
use Rattle.record.specs.declared.Record.TheVariants.{GateEntry}
use Rattle.record.specs.Meaning.{body_in, read_of}
use Rattle.record.proofs.BodyLaws.{read_entry_body}
use Rattle.bank.specs.Meaning.{load, entries}
use Rattle.setup.specs.Meaning.{entry_place, add_entry_of}
use Rattle.setup.proofs.Cases.{entry_taken}
use Rattle.setup.proofs.Laws.{body_whole, entry_body}
use Rattle.stage.specs.Meaning.{Bridge, Took, lists_took, taken_of, read_by, started_of, take_of}

module _ (b : Bridge) (input : List ℕ) (r : GateEntryRecord) (used : ℕ) (table : length b.table ≡ filter_count) (lists : length b.lists ≡ lists_octets)
    (read : read_of input (started_of b.bank) ≡ Ok (GateEntry r, used)) (room : entries b.bank r.gate < entry_count) where
  -- where the next entry of its gate is kept
  abbrev place : ℕ
  place = entry_place r.gate (entries b.bank r.gate)

  entered : take_of b input ≡ lists_took b used (add_entry_of b.bank b.lists (body_in input used) r)
  unfolding take_of read_by taken_of
  entered = rw (eq-eqb _ _ table, read)

  -- the answer's octets used: the record's whole length
  pub entry_uses : (take_of b input).answer.used ≡ 1 + entry_octets
  entry_uses =
      ap (λ (t : Took). t.answer.used) (entered ∙ ap (lists_took b used) (entry_taken b.bank b.lists (body_in input used) r _ refl room))
      ∙ (read_entry_body input (started_of b.bank) r used read).0

  used_is : (take_of b input).answer.used ≡ used
  used_is = entry_uses ∙ sym (read_entry_body input (started_of b.bank) r used read).0

  -- the body: the eleven octets after the kind
  pub entry_shown : body_in input (take_of b input).answer.used ≡ take entry_octets (drop 1 input)
  entry_shown = ap (body_in input) used_is ∙ (read_entry_body input (started_of b.bank) r used read).1.0

  -- and they stand in the gate's list
  pub entry_stored : load (take_of b input).after.lists place 0 entry_octets ≡ body_in input (take_of b input).answer.used
  entry_stored =
      ap (λ (t : Took). load t.after.lists place 0 entry_octets) entered
      ∙ entry_body b.bank b.lists (body_in input used) r room lists
      ∙ body_whole (body_in input used) (read_entry_body input (started_of b.bank) r used read).1.1
      ∙ ap (body_in input) (sym used_is)
