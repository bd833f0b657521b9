-- An input that is used up: where no octet is left, a call is refused for that alone, since the table keeps its length.
use Rattle.std.specs.Prelude.{ℕ, Bool, cond, List, [], ◌≡◌, set}
use Rattle.std.proofs.Math.Bool.{true, false}
use Rattle.std.proofs.Math.Path.{refl}
use Rattle.std.proofs.Common.{sym, ap, ◌∙◌, eq-eqb}
use Rattle.std.proofs.Math.ListN.{length, length-set}
use Rattle.sizes.specs.Meaning.{filter_count}
use Rattle.record.specs.declared.Record.{Record}
use Rattle.record.specs.declared.Refusal.TheVariants.{CutShort, SetUpAlready, TableLength}
use Rattle.record.specs.Meaning.{read_of}
use Rattle.filter.specs.Meaning.{is_filter_of, row_of}
use Rattle.verdict.specs.Meaning.{Answer}
use Rattle.verdict.specs.Meaning.{Refused, Taken}
use Rattle.stage.specs.Meaning.{Bridge, Took, took, answered, refused_of, filter_of, read_by, taken_of, started_of, take_of}
use Rattle.run.specs.Input.Meaning.{Front, begins, takes}
use Rattle.promises.proofs.Ways.{Called, unread, read, called_way}
use Rattle.record.specs.declared.Record.TheVariants as kind

module _ (b : Bridge) (c : List ℕ) where
  record_length_lem : (r : Record) (used : ℕ) → length (taken_of b c r used).after.table ≡ length b.table
  unfolding taken_of
  record_length_lem (kind.Port r) used = refl
  record_length_lem (kind.Filter r) used = placed used (is_filter_of (row_of b.table r.id))
    where
      placed : (used : ℕ) (t : Bool) → length (cond t (refused_of b SetUpAlready) (took (set b.table r.id (filter_of r)) b.bank b.lists (answered used Taken))).after.table ≡ length b.table
      placed used true = refl
      placed used false = length-set b.table r.id (filter_of r)
  record_length_lem (kind.Gate r) used = refl
  record_length_lem (kind.GateEntry r) used = refl
  record_length_lem (kind.Meter r) used = refl
  record_length_lem (kind.Group r) used = refl
  record_length_lem (kind.Scheduler r) used = refl
  record_length_lem (kind.Start r) used = refl
  record_length_lem (kind.Arrival r) used = refl
  record_length_lem (kind.Clear r) used = refl

  call_length : (o : Took) → Called b c o → length o.after.table ≡ length b.table
  call_length o (unread why) = refl
  call_length o (read r used full e) = record_length_lem r used

-- the table keeps its length
pub front_length : {b b' : Bridge} {s rest : List ℕ} {answers : List Answer} → Front b s answers b' rest → length b'.table ≡ length b.table
front_length begins = refl
front_length {b = b} {s = s} (takes o e h more) = front_length more ∙ ap (λ (x : Took). length x.after.table) (sym e) ∙ call_length b s (take_of b s) (called_way b s)

pub no_octet_left : (b : Bridge) → length b.table ≡ filter_count → (take_of b []).answer.verdict ≡ Refused CutShort
unfolding take_of read_by read_of
no_octet_left b full = ap (λ (t : Bool). (cond t (read_by b [] (read_of [] (started_of b.bank))) (refused_of b TableLength)).answer.verdict) (eq-eqb (length b.table) filter_count full)
