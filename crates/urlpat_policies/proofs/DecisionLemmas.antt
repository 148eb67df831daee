-- Lemmas on deciding about texts one by one.
use Rattle.std.proofs.Common.{Bor, ◌≡◌, ◌∙◌, ◌≤◌, ◌+◌, ◌++◌, ◌∷◌, ◌==◌, ℕ, List, [], None, Option, Some, ap, append-nil, arith, length, map, slice_get, subst, sym, take, take_all}
use Rattle.std.proofs.lemmas.List.{length-map, take_more}
use Rattle.std.proofs.lemmas.Option.{get_or_from_slice_get, slice_get_within}
use Rattle.std.proofs.lemmas.Slice.Zip.{all_zipped_more}
use Rattle.std.specs.Io.KnownBytes.{Appends}
use Rattle.std.specs.List.{AllZip}
use Rattle.std.specs.Prelude.{IfSome}
use Rattle.urlpat_matching.specs.LineAnswers.{LineRule, WritesAnswers, WritesInput}
use Rattle.urlpat_matching.specs.Status.{status_of}
use Rattle.urlpat_matching.specs.declared.answers.Tally.{Tally}
use Rattle.urlpat_matching.specs.declared.command.LineStyle.{LineStyle}
use Rattle.urlpattern_matcher.specs.declared.regexp.RegExp.{Ghosts as Engine}
use Rattle.urlpattern_policy.specs.declared.decision.Decision.{Decision}
use Rattle.urlpattern_policy.specs.declared.policy.UrlPolicy.{UrlPolicy}
use Rattle.urlpat_policies.specs.PolicyCommands.{IsDecided}

-- The decision about the next text is appended.
pub decided_more : {E : Type 0} (engine : Engine E) (policy : UrlPolicy E) (urls : List (List ℕ)) (index : ℕ) (url : List ℕ) (old new : List Decision) (decision : Decision)
    → slice_get urls index ≡ Some url → new ≡ old ++ decision ∷ [] → AllZip (IsDecided engine policy) (take index urls) old → IsDecided engine policy url decision → AllZip (IsDecided engine policy) (take (index + 1) urls) new
decided_more engine policy urls index url old new decision there grown before is =
    let taken : take (index + 1) urls ≡ take index urls ++ url ∷ [] =
    take_more urls index url (slice_get_within urls index url there) ∙ ap (λ (one : List ℕ). take index urls ++ one ∷ []) (get_or_from_slice_get urls index url url there) in
    subst (λ (them : List (List ℕ)). AllZip (IsDecided engine policy) them new) (sym taken)
    (subst (λ (them : List Decision). AllZip (IsDecided engine policy) (take index urls ++ url ∷ []) them) (sym grown) (all_zipped_more (IsDecided engine policy) (take index urls) old url decision before is))

-- The decisions about all texts.
pub all_decided : {E : Type 0} (engine : Engine E) (policy : UrlPolicy E) (urls : List (Bor (List ℕ))) (index : ℕ) (decisions : List Decision) → length urls ≤ index
    → AllZip (IsDecided engine policy) (take index (map (λ url. url.now) urls)) decisions → AllZip (IsDecided engine policy) (map (λ url. url.now) urls) decisions
all_decided engine policy urls index decisions past are =
    let count : length (map (λ (url : Bor (List ℕ)). url.now) urls) ≡ length urls = length-map urls (λ url. url.now) in
    subst (λ (them : List (List ℕ)). AllZip (IsDecided engine policy) them decisions) (take_all index (map (λ url. url.now) urls) (omega (arith, past, count))) are

appends_kept : (old mid new : Option (List ℕ)) (written : List ℕ) → Appends old mid written → Appends mid new [] → Appends old new written
appends_kept None mid new written first second = tt
appends_kept (Some old) None new written first second = absurd first
appends_kept (Some old) (Some mid) None written first second = absurd second
appends_kept (Some old) (Some mid) (Some new) written first second = second ∙ append-nil mid ∙ first

-- The output for the lines is written, and then nothing.
pub lines_decided : (Answers : LineRule) (style : LineStyle) (input old mid new : Option (List ℕ)) (tally : Tally) (status : ℕ)
    → WritesInput Answers style 1 input old mid tally → Appends mid new [] → status ≡ status_of (tally.selected == 0)
    → IfSome input (λ text. (denied : ℕ) × (status ≡ status_of (denied == 0)) × WritesAnswers Answers style 1 text denied old new)
lines_decided Answers style None old mid new tally status writes kept is = tt
lines_decided Answers style (Some text) old mid new tally status (written, are, grown) kept is = (tally.selected, is, (written, are, appends_kept old mid new written grown kept))
