-- `lines::put_form` meets its contract. Assumes nothing.
use Rattle.std.proofs.Common.{sym, ◌∙◌}
use Rattle.lines.proofs.Form.{put_mark, put_text, put_rest, filled_over}
use Rattle.lines.proofs.put_form.Goals as goal
use Rattle.lines.proofs.put_form.Goals.{then-is_ascii_uppercase, else-is_ascii_uppercase, in-Some, in-None}

pub loop-c-preserved : goal.loop-c-preserved
loop-c-preserved g c =
    let page = c.loop-c.page in
    let form = c.args.form.now in
    let i = c.loop-c.c-index in
    let l = c.loop-c-test.true in
    let left = c.loop-c.left.rest.now in
    elim c.if-is_ascii_uppercase.branch [
      | then-is_ascii_uppercase w ↦
          elim c.match-value.branch [
            | in-Some v ↦
                let s = rw (sym w.value-is ∙ v.in-Some.is) at w.next-value.ensures.steps in
                let e = put_mark page form i l v.in-Some.value.now w.next-value.new.self.rest.now (sym c.is_ascii_uppercase.ensures.value ∙ w.if-is_ascii_uppercase.true) in
                cc
            | in-None v ↦
                let s = rw (sym w.value-is ∙ v.in-None.is) at w.next-value.ensures.steps in
                let e = put_rest page form i l left s.0 in
                cc
          ]
      | else-is_ascii_uppercase w ↦
          elim c.match-value.branch [
            | in-Some v ↦ absurd cc
            | in-None v ↦
                let e = put_text page form i l left (sym c.is_ascii_uppercase.ensures.value ∙ w.if-is_ascii_uppercase.false) in
                cc
          ]
    ]

pub returns : goal.returns
returns g c = sym (filled_over c.loop-c.page c.args.form.now c.loop-c.left.rest.now c.loop-c.c-index c.loop-c-test.false) ∙ c.loop-c.invariant
