use Rattle.std.proofs.Common.{◌+◌, Some, get_or, take, refl, sym, ◌∙◌, subst}
use Rattle.urlpattern_diagnosis.proofs.NameLemmas.{HasFirst, first_found, first_kept, no_token, read_again, second_found}
use Rattle.urlpattern_diagnosis.proofs.fault.second_fault.Goals as goal
use Rattle.urlpattern_diagnosis.proofs.fault.second_fault.Goals.{then-gives_name+in-None, else-gives_name}

pub returns-in-Some-clause-fault : goal.returns-in-Some-clause-fault
returns-in-Some-clause-fault c =
    let tokens = c.args.tokens.now in
    let i = c.loop-token.token-index in
    second_found c.args.text.now c.args.name.now tokens i (get_or tokens i no_token) c.loop-token-test.true (read_again tokens i no_token c.loop-token-test.true)
    c.in-Some.earlier (record { span = c.span_of-span.result; earlier = Some c.in-Some.earlier }) (sym c.gives_name.ensures ∙ c.if-gives_name.true)
    (subst (HasFirst c.args.text.now c.args.name.now (take i tokens)) c.in-Some.is c.loop-token.invariant) c.span_of-span.ensures.span refl

pub loop-token-preserved : goal.loop-token-preserved
loop-token-preserved c =
    let tokens = c.args.tokens.now in
    let i = c.loop-token.token-index in
    let lt = c.loop-token-test.true in
    let again = read_again tokens i no_token lt in
    elim c.if-gives_name.branch [
      | then-gives_name+in-None w ↦ subst (HasFirst c.args.text.now c.args.name.now (take (i + 1) tokens)) (sym w.first-is)
          (first_found c.args.text.now c.args.name.now tokens i (get_or tokens i no_token) lt again w.span_of-span.result (sym c.gives_name.ensures ∙ w.if-gives_name.true)
          (subst (HasFirst c.args.text.now c.args.name.now (take i tokens)) w.in-None.is c.loop-token.invariant) w.span_of-span.ensures.span w.span_of-span.ensures.within)
      | else-gives_name w ↦ subst (HasFirst c.args.text.now c.args.name.now (take (i + 1) tokens)) (sym w.first-is)
          (first_kept c.args.text.now c.args.name.now tokens i (get_or tokens i no_token) lt again c.loop-token.first (sym c.gives_name.ensures ∙ w.if-gives_name.false) c.loop-token.invariant)
    ]
