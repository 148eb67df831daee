use Rattle.std.proofs.Common.{◌≡◌, ◌∙◌, [], ◌∷◌, ◌++◌, ap, append-nil, inr, subst, sym}
use Rattle.std.proofs.lemmas.List.Elements.{All-cons, All-nil, Contains-push}
use Rattle.std.specs.List.{Contains}
use Rattle.urlpattern_compare.specs.Candidates.{IsCandidateOf, IsFoundAt, IsWithText, MeetsEach, ShareBy, negated, text_at}
use Rattle.urlpattern_compare.specs.declared.candidates.Candidate.{Candidate}
use Rattle.urlpattern_compare.specs.declared.search.Found.TheVariants.{Text, Nothing, TooMany}
use Rattle.urlpattern_compare.proofs.CandidateLemmas.{among_negated, many_among, meets_at, push_negated, rejecting}
use Rattle.urlpattern_compare.proofs.candidates.reject.Goals as goal

pub returns-in_ok-push-in-Text-clause-candidates : goal.returns-in_ok-push-in-Text-clause-candidates
returns-in_ok-push-in-Text-clause-candidates c =
    let conditions = c.args.conditions.now in
    let condition = c.args.condition in
    let component = condition.component in
    let longer = conditions ++ negated condition ∷ [] in
    let next : Candidate = record { conditions = c.push.new.self; texts = c.in_ok-new_texts-in-Text.new_texts } in
    let more_is : c.push.new.self.items ≡ longer = c.in_ok-push.ensures.items ∙ ap (λ l. l ++ c.negated.result ∷ []) c.in_ok-more.ensures.items ∙ ap (λ it. conditions ++ it ∷ []) c.negated.ensures in
    let found : IsFoundAt longer component c.args.most (Text c.in-Text.text) =
    subst (IsFoundAt longer component c.args.most) c.in-Text.is (subst (λ l. IsFoundAt l component c.args.most c.in_ok-text.field-0) (c.deref.ensures.value ∙ more_is) c.in_ok-text.ensures) in
    let with : IsWithText (text_at c.args.texts.now) component c.in-Text.text.items (text_at next.texts) =
    subst (λ t. IsWithText (text_at c.args.texts.now) component t (text_at next.texts)) c.deref-in-Text.ensures.value c.in_ok-new_texts-in-Text.ensures in (
      next ∷ [],
      c.in_ok-push-in-Text.ensures.items,
      All-cons (IsCandidateOf conditions (condition ∷ [])) next []
          (rejecting conditions condition (text_at c.args.texts.now) c.in-Text.text.items next c.requires.lines c.requires.met more_is with found.0 found.1)
          (All-nil (IsCandidateOf conditions (condition ∷ []))),
      (All-nil (λ other. ¬ ShareBy (condition ∷ []) next other), tt),
    )

pub returns-in_ok-push-in-Text-clause-divided : goal.returns-in_ok-push-in-Text-clause-divided
returns-in_ok-push-in-Text-clause-divided c = λ texts lines met unmet.
    let conditions = c.args.conditions.now in
    let condition = c.args.condition in
    let next : Candidate = record { conditions = c.push.new.self; texts = c.in_ok-new_texts-in-Text.new_texts } in
    let more_is : c.push.new.self.items ≡ conditions ++ negated condition ∷ [] =
    c.in_ok-push.ensures.items ∙ ap (λ l. l ++ c.negated.result ∷ []) c.in_ok-more.ensures.items ∙ ap (λ it. conditions ++ it ∷ []) c.negated.ensures in
    let pushed : c.push-in-Text.new.self.items ≡ c.args.candidates.now.items ++ next ∷ [] = c.in_ok-push-in-Text.ensures.items in
    inr (
      next,
      subst (λ l. Contains l next) (sym pushed) (Contains-push c.args.candidates.now.items next),
      subst (λ l. MeetsEach l texts) (sym more_is) (push_negated conditions condition texts met unmet),
    )

pub returns-in-Nothing-clause-candidates : goal.returns-in-Nothing-clause-candidates
returns-in-Nothing-clause-candidates c = ([], sym (append-nil c.args.candidates.now.items), All-nil (IsCandidateOf c.args.conditions.now (c.args.condition ∷ [])), tt)

pub returns-in-Nothing-clause-divided : goal.returns-in-Nothing-clause-divided
returns-in-Nothing-clause-divided c = λ texts lines met unmet.
    let conditions = c.args.conditions.now in
    let condition = c.args.condition in
    let component = condition.component in
    let longer = conditions ++ negated condition ∷ [] in
    let more_is : c.push.new.self.items ≡ longer = c.in_ok-push.ensures.items ∙ ap (λ l. l ++ c.negated.result ∷ []) c.in_ok-more.ensures.items ∙ ap (λ it. conditions ++ it ∷ []) c.negated.ensures in
    let found : IsFoundAt longer component c.args.most Nothing =
    subst (IsFoundAt longer component c.args.most) c.in-Nothing.is (subst (λ l. IsFoundAt l component c.args.most c.in_ok-text.field-0) (c.deref.ensures.value ∙ more_is) c.in_ok-text.ensures) in
    absurd (found (texts component) (lines component) (meets_at longer texts component (push_negated conditions condition texts met unmet)))

pub returns-in-TooMany-clause-candidates : goal.returns-in-TooMany-clause-candidates
returns-in-TooMany-clause-candidates c = ([], sym (append-nil c.args.candidates.now.items), All-nil (IsCandidateOf c.args.conditions.now (c.args.condition ∷ [])), tt)

pub returns-in-TooMany-clause-many : goal.returns-in-TooMany-clause-many
returns-in-TooMany-clause-many c =
    let conditions = c.args.conditions.now in
    let condition = c.args.condition in
    let component = condition.component in
    let longer = conditions ++ negated condition ∷ [] in
    let more_is : c.push.new.self.items ≡ longer = c.in_ok-push.ensures.items ∙ ap (λ l. l ++ c.negated.result ∷ []) c.in_ok-more.ensures.items ∙ ap (λ it. conditions ++ it ∷ []) c.negated.ensures in
    let found : IsFoundAt longer component c.args.most TooMany =
    subst (IsFoundAt longer component c.args.most) c.in-TooMany.is (subst (λ l. IsFoundAt l component c.args.most c.in_ok-text.field-0) (c.deref.ensures.value ∙ more_is) c.in_ok-text.ensures) in
    many_among longer (conditions ++ condition ∷ []) component c.args.most (among_negated conditions condition) found
