use Rattle.std.proofs.Common.{◌≡◌, ℕ, ◌+◌, ◌≤◌, ◌<◌, ◌∷◌, [], length, inl, inr, refl, sym, ap, ◌∙◌, rules, arith}
use Rattle.std.specs.Str.{chars}
use Rattle.std.proofs.lemmas.Bool.Decides.{nat_tests}
use Rattle.urlpattern_syntax.specs.Text.{byte_len}
use Rattle.urlpattern_syntax.specs.Tokens.{CapturingGroup, EscapedNotAscii, GroupAtEnd, IncompleteEscapeCode, InvalidRegex, LacksQuestionMark, reason}
use Rattle.urlpattern_syntax.proofs.BodyLemmas.{HasRead-plain, HasRead-escaped, HasRead-opened, HasRead-closed, body_lexed, fault_not_ascii, fault_escape, fault_group, fault_end}
use Rattle.urlpattern_syntax.proofs.TextLemmas.{byte_len-char}
use Rattle.urlpattern_parser.proofs.RefusedBodies.{after_front, all_read}
use Rattle.urlpattern_parser.proofs.body.split_body.Goals as goal

pub loop-first-preserved-then-is_ascii : goal.loop-first-preserved-then-is_ascii
loop-first-preserved-then-is_ascii c =
    let cut : chars c.loop-first.rest.now ≡ 92 ∷ chars c.in-Some.after.now = search rules in
    record {
      is_text = search rules;
      has_read = HasRead-escaped _ _ _ _ _ _ c.loop-first.invariant.has_read cut c.in-Some-split_first.ensures.cut (search rules);
      few = omega (arith, c.in-Some.ensures.len, c.in-Some-split_first.ensures.len);
    }

pub loop-first-preserved-in-Some-eq63-default : goal.loop-first-preserved-in-Some-eq63-default
loop-first-preserved-in-Some-eq63-default c =
    let cut : chars c.loop-first.rest.now ≡ 40 ∷ chars c.in-Some.after.now = search rules in
    let more : chars c.in-Some.after.now ≡ 63 ∷ chars c.in-Some-eq63-default.next.now = search rules in
    let shorter : length c.in-Some.after.now < length c.loop-first.rest.now = search rules in
    let least : length c.in-Some-eq63-default.next.now < length c.in-Some.after.now = search rules in
    record {
      is_text = search rules;
      has_read = HasRead-opened _ _ _ _ _ c.loop-first.invariant.has_read cut more;
      few = omega arith;
    }

pub loop-first-preserved-in-41 : goal.loop-first-preserved-in-41
loop-first-preserved-in-41 c =
    let cut : chars c.loop-first.rest.now ≡ 41 ∷ chars c.in-Some.after.now = search rules in
    record {
      is_text = search rules;
      has_read = HasRead-closed _ _ _ _ c.loop-first.invariant.has_read (omega (arith, c.if-depth-eq0.false)) cut;
      few = omega (arith, c.in-Some.ensures.len);
    }

pub loop-first-preserved : goal.loop-first-preserved
loop-first-preserved c = record {
  is_text = search rules;
  has_read = HasRead-plain _ _ _ _ _ c.loop-first.invariant.has_read c.in-Some.ensures.cut (search rules) (grind (arith, nat_tests));
  few = omega (arith, c.in-Some.ensures.len);
}

-- the place of a fault is within the text
within : (rest text depth : ℕ) → depth + rest ≤ text → rest ≤ text
within rest text depth few = omega arith

pub returns-in-Some-2-clause-refused : goal.returns-in-Some-2-clause-refused
returns-in-Some-2-clause-refused c =
    let read = c.loop-first.invariant.has_read in
    let cut : chars c.loop-first.rest.now ≡ 92 ∷ chars c.in-Some.after.now = search rules in
    let big : 128 ≤ c.in-Some-split_first.escaped = search rules in
    let len : c.len_utf8.result ≡ byte_len (c.in-Some-split_first.escaped ∷ []) = c.len_utf8.ensures.len ∙ sym (byte_len-char c.in-Some-split_first.escaped) in
    let next = chars c.in-Some-split_first.next.now in
    let more = c.in-Some-split_first.ensures.cut in
    rw c.invalid.ensures (
      fault_escape _ _ _ read c.requires _ (InvalidRegex (reason EscapedNotAscii)) cut (c.in-Some-split_first.escaped, next, more, big, refl),
      (
        after_front _ _ _ read c.requires,
        inr (inl (c.in-Some-split_first.escaped, next, cut ∙ ap (λ x. 92 ∷ x) more, big, ap (λ n. 1 + n) len)),
        within _ _ _ c.loop-first.invariant.few,
      ),
    )

pub returns-in-None-clause-refused : goal.returns-in-None-clause-refused
returns-in-None-clause-refused c =
    let cut : chars c.loop-first.rest.now ≡ 92 ∷ chars c.in-Some.after.now = search rules in
    let none : chars c.in-Some.after.now ≡ [] = search rules in
    rw c.unfinished.ensures (fault_escape _ _ _ c.loop-first.invariant.has_read c.requires _ IncompleteEscapeCode cut none, inl refl)

pub returns-in-Some-split_first-2-clause-refused : goal.returns-in-Some-split_first-2-clause-refused
returns-in-Some-split_first-2-clause-refused c =
    let read = c.loop-first.invariant.has_read in
    let cut : chars c.loop-first.rest.now ≡ 40 ∷ chars c.in-Some.after.now = search rules in
    let other : LacksQuestionMark (chars c.in-Some.after.now) (InvalidRegex (reason CapturingGroup)) = search rules in
    rw c.invalid-in-Some-split_first-2.ensures (
      fault_group _ _ _ read c.requires _ (InvalidRegex (reason CapturingGroup)) cut other,
      (
        after_front _ _ _ read c.requires,
        inr (inr (chars c.in-Some.after.now, cut, search rules, refl)),
        within _ _ _ c.loop-first.invariant.few,
      ),
    )

pub returns-in-None-split_first-clause-refused : goal.returns-in-None-split_first-clause-refused
returns-in-None-split_first-clause-refused c =
    let read = c.loop-first.invariant.has_read in
    let cut : chars c.loop-first.rest.now ≡ 40 ∷ chars c.in-Some.after.now = search rules in
    let none : chars c.in-Some.after.now ≡ [] = search rules in
    rw c.invalid-in-None-split_first.ensures (
      fault_group _ _ _ read c.requires _ (InvalidRegex (reason GroupAtEnd)) cut (inl (none, refl)),
      (
        after_front _ _ _ read c.requires,
        inr (inr (chars c.in-Some.after.now, cut, search rules, refl)),
        within _ _ _ c.loop-first.invariant.few,
      ),
    )

pub returns-then-depth-eq0-clause-body : goal.returns-then-depth-eq0-clause-body
returns-then-depth-eq0-clause-body c =
    let cut : chars c.loop-first.rest.now ≡ 41 ∷ chars c.in-Some.after.now = search rules in
    body_lexed _ _ _ c.loop-first.invariant.has_read c.requires _ _ c.if-depth-eq0.true cut c.before-then-depth-eq0.ensures

pub returns-in_default-2-clause-refused : goal.returns-in_default-2-clause-refused
returns-in_default-2-clause-refused c =
    let read = c.loop-first.invariant.has_read in
    let cut = c.in-Some.ensures.cut in
    let big : 128 ≤ c.in-Some.first = search rules in
    rw c.invalid-in_default-2.ensures (
      fault_not_ascii _ _ _ read c.requires _ _ cut big,
      (
        after_front _ _ _ read c.requires,
        inl (c.in-Some.first, chars c.in-Some.after.now, cut, big, c.len_utf8-in_default-2.ensures.len ∙ sym (byte_len-char c.in-Some.first)),
        within _ _ _ c.loop-first.invariant.few,
      ),
    )

pub returns-clause-refused : goal.returns-clause-refused
returns-clause-refused c =
    let read = c.loop-first.invariant.has_read in
    rw c.unfinished-2.ensures (fault_end _ _ _ read c.requires (search rules), inr (all_read _ _ _ read c.requires (search rules)))
