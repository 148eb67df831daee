use Rattle.std.proofs.Common.{◌≡◌, ◌∙◌, ◌+◌, ◌++◌, ◌∷◌, [], List, ℕ, ap, append-nil, sym, subst, take, take_all}
use Rattle.std.proofs.lemmas.List.{take_more}
use Rattle.std.proofs.lemmas.Str.{encodes-append, encodes-chars, encodes_same, IsUtf8-string_bytes}
use Rattle.std.specs.Char.{encode_utf8}
use Rattle.std.specs.Prelude.{encode_utf8_all, string_bytes}
use Rattle.std.specs.Str.{chars}
use Rattle.urlpattern_compare.proofs.pattern_parts.string_of.Goals as goal

pub loop-c-preserved : goal.loop-c-preserved
loop-c-preserved c =
    let characters = c.args.characters.now in
    let i = c.loop-c.c-index in
    let x = c.c-item.result in
    let before = take i characters in
    let last : encode_utf8_all (before ++ x ∷ []) ≡ encode_utf8_all before ++ encode_utf8 x =
    encodes-append before (x ∷ []) ∙ ap (λ (l : List ℕ). encode_utf8_all before ++ l) (append-nil (encode_utf8 x)) in
    let more : take (i + 1) characters ≡ before ++ x ∷ [] =
    subst (λ (y : ℕ). take (i + 1) characters ≡ before ++ y ∷ []) (sym c.c-item.is) (take_more characters i x c.loop-c-test.true) in
    c.in_ok-push.ensures.bytes ∙ ap (λ (l : List ℕ). l ++ encode_utf8 x) c.loop-c.invariant ∙ sym (ap encode_utf8_all more ∙ last)

pub returns : goal.returns
returns c =
    let bytes = string_bytes c.loop-c.text in
    encodes_same (chars bytes) c.args.characters.now (encodes-chars bytes (IsUtf8-string_bytes c.loop-c.text) ∙ c.loop-c.invariant
    ∙ ap encode_utf8_all (take_all c.loop-c.c-index c.args.characters.now c.loop-c-test.false))
