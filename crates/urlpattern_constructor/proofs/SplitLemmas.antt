-- Lemmas on the positions of a split: signs, the tokens that are seen after one, and the single
-- position where a section ends.
use Rattle.std.proofs.Common.{◌≡◌, ℕ, zero, suc, ◌+◌, ◌-◌, ◌<◌, ◌≤◌, ◌⊎◌, Bool, true, false, not, ◌&&◌, ◌||◌, ◌==◌, Option, Some, None, List, [], ◌∷◌, ◌++◌, length, take, drop, refl, sym, ap, ◌∙◌, inl, inr, arith}
use Rattle.std.proofs.lemmas.Bool.{and_parts, and_from, both_ways, cases_Bool, cases_eq, cases_lt, eqb-true, false≢true, or_cases, or_right}
use Rattle.std.proofs.lemmas.List.{drop-drop}
use Rattle.std.proofs.lemmas.List.Sums.{fold-append}
use Rattle.std.proofs.lemmas.Slice.Eq.{bytes_eq-Decides}
use Rattle.std.specs.List.{fold}
use Rattle.std.specs.Prelude.{codes, IsSomeAnd, IsTrue, is_some, option_map, slice_get, slice_range}
use Rattle.std.specs.Str.{bytes_eq}
use Rattle.urlpattern_constructor.specs.Split.{EndsAt, IsSplit, LacksProtocol, SplitTextView, SplitTexts, passes_at, depth_before, depth_after, ends_at, is_at_sign, is_balanced, is_character, is_colon_sign, is_end, is_ending, is_hash_sign, is_open, is_search_prefix, is_seen, is_non_special_pattern_char, is_slash_sign, may_end}
use Rattle.urlpattern_constructor.proofs.ClosedTokens.{IsClosed}
use Rattle.urlpattern_constructor.specs.Splitting.{may_end_before}
use Rattle.urlpattern_constructor.specs.declared.sections.Section.{Section}
use Rattle.urlpattern_constructor.specs.declared.sections.Section.TheVariants.{Authority, Password, Port, Protocol, Username}
use Rattle.urlpattern_constructor.proofs.TokenPlaces.{at_view}
use Rattle.urlpattern_constructor.proofs.SeenLemmas.{depth_here, depth_more}
use Rattle.urlpattern_syntax.specs.Tokens.{AreLenientTokens, TokenView}
use Rattle.urlpattern_syntax.specs.declared.tokenizer.TokenType.{TokenType}
use Rattle.urlpattern_syntax.specs.declared.tokenizer.TokenType.TheVariants.{Char, Close, End, EscapedChar, InvalidChar, Open}

-- ---- signs

-- Where a test passes there is a token.
pub found_at : (test : TokenView → Bool) (tokens : List TokenView) (i : ℕ) → IsTrue (passes_at test tokens i) → (token : TokenView) × (slice_get tokens i ≡ Some token) × (test token ≡ true) × (i < length tokens)
found_at test [] i h = absurd (false≢true h)
found_at test (token ∷ tokens) zero h = (token, refl, h, omega arith)
found_at test (token ∷ tokens) (suc i) h =
    let found = found_at test tokens i h in
    (found.0, found.1, found.2, let within = found.3 in omega arith)

character_depth : (kind : TokenType) (depth : ℕ) → is_character kind ≡ true → depth_after kind depth ≡ depth
character_depth Char depth h = refl
character_depth EscapedChar depth h = refl
character_depth InvalidChar depth h = refl
character_depth Open depth h = absurd (false≢true h)
character_depth Close depth h = absurd (false≢true h)
character_depth kind depth h = refl

character_not_end : (kind : TokenType) → is_character kind ≡ true → is_end kind ≡ false
character_not_end End h = absurd (false≢true h)
character_not_end kind h = refl

-- A sign is not End.
pub sign_not_end : (mark : List ℕ) (tokens : List TokenView) (i : ℕ) → IsTrue (passes_at (is_non_special_pattern_char mark) tokens i) → ¬ IsTrue (ends_at tokens i)
sign_not_end mark tokens i h end =
    let found = found_at (is_non_special_pattern_char mark) tokens i h in
    let character : is_character found.0.kind ≡ true = (and_parts (is_character found.0.kind) (bytes_eq found.0.value mark) found.2).0 in
    both_ways _ (at_view (λ t. is_end t.kind) tokens i found.0 found.1 ∙ character_not_end found.0.kind character) end

-- More tokens follow a sign.
pub sign_goes_on : (mark : List ℕ) (tokens : List TokenView) (i : ℕ) → IsClosed tokens → IsTrue (passes_at (is_non_special_pattern_char mark) tokens i) → i + 1 < length tokens
sign_goes_on mark tokens i closed h = closed.goes_on i (found_at (is_non_special_pattern_char mark) tokens i h).3 (sign_not_end mark tokens i h)

-- ---- depth

take_nothing : (m : ℕ) → take {A = TokenView} m [] ≡ []
take_nothing zero = refl
take_nothing (suc m) = refl

take_sum : (xs : List TokenView) (n m : ℕ) → take (n + m) xs ≡ take n xs ++ take m (drop n xs)
take_sum xs zero m = let e : 0 + m ≡ m = omega arith in ap (λ k. take k xs) e
take_sum [] (suc n) m = take_nothing (suc n + m) ∙ sym (take_nothing m)
take_sum (x ∷ xs) (suc n) m = let e : suc n + m ≡ suc (n + m) = omega arith in ap (λ k. take k (x ∷ xs)) e ∙ ap (λ ys. x ∷ ys) (take_sum xs n m)

range_joined : (tokens : List TokenView) (from between place : ℕ) → from ≤ between → between ≤ place → slice_range tokens from place ≡ slice_range tokens from between ++ slice_range tokens between place
range_joined tokens from between place le more =
    let n : place - from ≡ (between - from) + (place - between) = omega arith in
    let m : from + (between - from) ≡ between = omega arith in
    ap (λ k. take k (drop from tokens)) n
    ∙ take_sum (drop from tokens) (between - from) (place - between)
    ∙ ap (λ xs. slice_range tokens from between ++ take (place - between) xs) (drop-drop (between - from) from tokens ∙ ap (λ k. drop k tokens) m)

-- The depth is counted on from the depth at a position between.
pub depth_joined : (tokens : List TokenView) (from depth between place : ℕ) → from ≤ between → between ≤ place → depth_before tokens from depth place ≡ depth_before tokens between (depth_before tokens from depth between) place
depth_joined tokens from depth between place le more =
    ap (fold (λ (reached : ℕ) (t : TokenView). depth_after t.kind reached) depth) (range_joined tokens from between place le more)
    ∙ fold-append (λ (reached : ℕ) (t : TokenView). depth_after t.kind reached) depth (slice_range tokens from between) (slice_range tokens between place)

-- A sign leaves the depth as it is.
pub depth_after_sign : (mark : List ℕ) (tokens : List TokenView) (from depth place : ℕ) → from < place → IsTrue (passes_at (is_non_special_pattern_char mark) tokens from) → depth_before tokens from depth place ≡ depth_before tokens (from + 1) depth place
depth_after_sign mark tokens from depth place less h =
    let found = found_at (is_non_special_pattern_char mark) tokens from h in
    let character : is_character found.0.kind ≡ true = (and_parts (is_character found.0.kind) (bytes_eq found.0.value mark) found.2).0 in
    let le : from ≤ from + 1 = omega arith in
    let more : from + 1 ≤ place = omega arith in
    depth_joined tokens from depth (from + 1) place le more
    ∙ ap (λ d. depth_before tokens (from + 1) d place)
    (depth_more tokens from depth from found.0 (omega arith) found.1
    ∙ ap (depth_after found.0.kind) (depth_here tokens from depth)
    ∙ character_depth found.0.kind depth character)

-- A token that is seen from one position is seen from another with equal depth.
pub seen_same : (tokens : List TokenView) (from depth other_from other_depth place : ℕ) → depth_before tokens from depth place ≡ depth_before tokens other_from other_depth place → is_seen tokens from depth place ≡ is_seen tokens other_from other_depth place
seen_same tokens from depth other_from other_depth place e =
    ap (λ d. ends_at tokens place || (not (passes_at (λ t. is_open t.kind) tokens place) && d == 0)) e

-- ---- the end of a section

-- A section ends where it may, or at End.
pub stops_cases : (section : Section) (tokens : List TokenView) (from depth place : ℕ) → EndsAt section tokens from depth place → IsTrue (may_end section tokens from depth place) ⊎ IsTrue (ends_at tokens place)
stops_cases section tokens from depth place ends = or_cases (may_end section tokens from depth place) (ends_at tokens place) ends.stops

-- Where a section may end, the token is seen and is one of the section's signs.
pub may_end_parts : (section : Section) (tokens : List TokenView) (from depth place : ℕ) → IsTrue (may_end section tokens from depth place) → IsTrue (is_seen tokens from depth place) × IsTrue (is_ending section (is_balanced tokens from depth place) tokens place)
may_end_parts section tokens from depth place may = and_parts (is_seen tokens from depth place) (is_ending section (is_balanced tokens from depth place) tokens place) may

-- A token other than End is seen at depth zero.
pub seen_depth : (tokens : List TokenView) (from depth place : ℕ) → IsTrue (is_seen tokens from depth place) → ¬ IsTrue (ends_at tokens place) → depth_before tokens from depth place ≡ 0
seen_depth tokens from depth place seen goes =
    elim (or_cases (ends_at tokens place) (not (passes_at (λ t. is_open t.kind) tokens place) && depth_before tokens from depth place == 0) seen) [
      | inl end ↦ absurd (goes end)
      | inr level ↦ eqb-true (depth_before tokens from depth place) 0 (and_parts (not (passes_at (λ t. is_open t.kind) tokens place)) (depth_before tokens from depth place == 0) level).1
    ]

-- A section that does not end at End ends at depth zero.
pub depth_at_end : (section : Section) (tokens : List TokenView) (from depth place : ℕ) → EndsAt section tokens from depth place → ¬ IsTrue (ends_at tokens place) → depth_before tokens from depth place ≡ 0
depth_at_end section tokens from depth place ends goes =
    elim (stops_cases section tokens from depth place ends) [
      | inl may ↦ seen_depth tokens from depth place (may_end_parts section tokens from depth place may).0 goes
      | inr end ↦ absurd (goes end)
    ]

-- A slash that is seen after the end of a section is seen from the beginning of the section.
pub slash_seen_before : (section : Section) (tokens : List TokenView) (from depth end other : ℕ) → IsClosed tokens → EndsAt section tokens from depth end → end ≤ other → IsTrue (is_seen tokens end 0 other) → IsTrue (is_slash_sign tokens other) → IsTrue (is_seen tokens from depth other)
slash_seen_before section tokens from depth end other closed ends le seen slash =
    elim (cases_Bool (ends_at tokens end)) [
      | inl is_end ↦
          let last = closed.last end ends.within is_end in
          let within = (found_at (is_non_special_pattern_char (codes "/")) tokens other slash).3 in
          let same : end ≡ other = omega arith in
          absurd (sign_not_end (codes "/") tokens other slash (ap (ends_at tokens) (sym same) ∙ is_end))
      | inr goes ↦
          let zero_depth = depth_at_end section tokens from depth end ends (λ h. both_ways (ends_at tokens end) goes h) in
          seen_same tokens from depth end 0 other
          (depth_joined tokens from depth end other ends.after le ∙ ap (λ d. depth_before tokens end d other) zero_depth)
          ∙ seen
    ]

-- A slash that is seen after a sign is seen from the sign.
pub slash_seen_from_sign : (mark : List ℕ) (tokens : List TokenView) (sign other : ℕ) → IsTrue (passes_at (is_non_special_pattern_char mark) tokens sign) → sign < other → IsTrue (is_seen tokens (sign + 1) 0 other) → IsTrue (is_seen tokens sign 0 other)
slash_seen_from_sign mark tokens sign other is_a_sign less seen =
    seen_same tokens sign 0 (sign + 1) 0 other (depth_after_sign mark tokens sign 0 other less is_a_sign) ∙ seen

-- A slash at which a section ends is seen.
pub slash_is_seen : (section : Section) (tokens : List TokenView) (from depth end : ℕ) → EndsAt section tokens from depth end → IsTrue (is_slash_sign tokens end) → IsTrue (is_seen tokens from depth end)
slash_is_seen section tokens from depth end ends slash =
    elim (stops_cases section tokens from depth end ends) [
      | inl may ↦ (may_end_parts section tokens from depth end may).0
      | inr is_end ↦ absurd (sign_not_end (codes "/") tokens end slash is_end)
    ]

-- The sign with which a port ends.
pub port_sign : (tokens : List TokenView) (from depth place : ℕ) → EndsAt Port tokens from depth place → IsTrue (may_end_before Port tokens place)
port_sign tokens from depth place ends =
    elim (stops_cases Port tokens from depth place ends) [
      | inl may ↦ or_regroup (is_slash_sign tokens place) (is_search_prefix tokens place) (is_hash_sign tokens place) (ends_at tokens place) (may_end_parts Port tokens from depth place may).1
      | inr is_end ↦ or_last (is_slash_sign tokens place) (is_search_prefix tokens place) (is_hash_sign tokens place) (ends_at tokens place) is_end
    ]
  where
    or_regroup : (a b c e : Bool) → (a || b || c) ≡ true → (a || b || c || e) ≡ true
    or_regroup true b c e h = refl
    or_regroup false true c e h = refl
    or_regroup false false true e h = refl
    or_regroup false false false e h = absurd (false≢true h)

    or_last : (a b c e : Bool) → e ≡ true → (a || b || c || e) ≡ true
    or_last true b c e h = refl
    or_last false true c e h = refl
    or_last false false true e h = refl
    or_last false false false e h = h

-- ---- the single end of a section

-- A section ends no later than where it may.
pub ends_by : (section : Section) (tokens : List TokenView) (from depth place other : ℕ) → EndsAt section tokens from depth place → from ≤ other → IsTrue (may_end section tokens from depth other) → place ≤ other
ends_by section tokens from depth place other ends after may =
    elim (cases_lt other place) [ inl before ↦ absurd (ends.least other after before may) | inr le ↦ le ]

-- A sign with which a section ends is seen.
pub sign_is_seen : (mark : List ℕ) (section : Section) (tokens : List TokenView) (from depth end : ℕ) → EndsAt section tokens from depth end → IsTrue (passes_at (is_non_special_pattern_char mark) tokens end) → IsTrue (is_seen tokens from depth end)
sign_is_seen mark section tokens from depth end ends sign =
    elim (stops_cases section tokens from depth end ends) [
      | inl may ↦ (may_end_parts section tokens from depth end may).0
      | inr is_end ↦ absurd (sign_not_end mark tokens end sign is_end)
    ]

-- A token is at most one character.
sign_conflict : (tokens : List TokenView) (i : ℕ) → IsTrue (is_colon_sign tokens i) → IsTrue (is_at_sign tokens i) → ⊥
sign_conflict tokens i colon at_sign =
    let one = found_at (is_non_special_pattern_char (codes ":")) tokens i colon in
    let two = at_view (is_non_special_pattern_char (codes "@")) tokens i one.0 one.1 in
    let is_one : bytes_eq one.0.value (codes ":") ≡ true = (and_parts (is_character one.0.kind) (bytes_eq one.0.value (codes ":")) one.2).1 in
    let is_two : bytes_eq one.0.value (codes "@") ≡ true = (and_parts (is_character one.0.kind) (bytes_eq one.0.value (codes "@")) (sym two ∙ at_sign)).1 in
    let e : one.0.value ≡ codes ":" = (bytes_eq-Decides one.0.value (codes ":")).0 is_one in
    let f : one.0.value ≡ codes "@" = (bytes_eq-Decides one.0.value (codes "@")).0 is_two in
    false≢true (ap (λ v. bytes_eq v (codes "@")) (sym e) ∙ ap (λ v. bytes_eq v (codes "@")) f)

-- The depth after a colon with which the username ends is the depth from the beginning of the
-- username.
userinfo_depth : (tokens : List TokenView) (from colon place : ℕ) → EndsAt Username tokens from 0 colon → IsTrue (is_colon_sign tokens colon) → colon < place → depth_before tokens from 0 place ≡ depth_before tokens (colon + 1) 0 place
userinfo_depth tokens from colon place ends is_a_colon less =
    let level = depth_at_end Username tokens from 0 colon ends (sign_not_end (codes ":") tokens colon is_a_colon) in
    depth_joined tokens from 0 colon place ends.after (omega arith)
    ∙ ap (λ d. depth_before tokens colon d place) level
    ∙ depth_after_sign (codes ":") tokens colon 0 place less is_a_colon

-- The username ends at the sign of the hostname or before it.
pub username_before : (tokens : List TokenView) (from until place : ℕ) → EndsAt Authority tokens from 0 until → IsTrue (is_at_sign tokens until) → EndsAt Username tokens from 0 place → place ≤ until
username_before tokens from until place authority at_sign username =
    ends_by Username tokens from 0 place until username authority.after
    (and_from (is_seen tokens from 0 until) (is_colon_sign tokens until || is_at_sign tokens until) (sign_is_seen (codes "@") Authority tokens from 0 until authority at_sign) (or_right (is_colon_sign tokens until) (is_at_sign tokens until) at_sign))

-- An authority may end at the sign of the hostname.
at_sign_ends : (tokens : List TokenView) (place : ℕ) (balanced : Bool) → IsTrue (is_at_sign tokens place) → IsTrue (is_ending Authority balanced tokens place)
at_sign_ends tokens place balanced sign = or_first (is_at_sign tokens place) (is_slash_sign tokens place) (is_search_prefix tokens place) (is_hash_sign tokens place) sign
  where
    or_first : (a b c d : Bool) → a ≡ true → (a || b || c || d) ≡ true
    or_first true b c d h = refl
    or_first false b c d h = absurd (false≢true h)

-- A username that does not end at a colon ends at the sign of the hostname.
pub username_alone : (tokens : List TokenView) (from until place : ℕ) → IsClosed tokens → EndsAt Authority tokens from 0 until → IsTrue (is_at_sign tokens until) → EndsAt Username tokens from 0 place → ¬ IsTrue (is_colon_sign tokens place) → place ≡ until
username_alone tokens from until place closed authority at_sign username no_colon =
    let le = username_before tokens from until place authority at_sign username in
    elim (stops_cases Username tokens from 0 place username) [
      | inl may ↦
          let parts = may_end_parts Username tokens from 0 place may in
          let sign : IsTrue (is_at_sign tokens place) = elim (or_cases (is_colon_sign tokens place) (is_at_sign tokens place) parts.1) [ inl colon ↦ absurd (no_colon colon) | inr sign ↦ sign ] in
          let ge = ends_by Authority tokens from 0 until place authority username.after (and_from (is_seen tokens from 0 place) (is_ending Authority (is_balanced tokens from 0 place) tokens place) parts.0 (at_sign_ends tokens place (is_balanced tokens from 0 place) sign)) in
          omega arith
      | inr is_end ↦ let last = closed.last place username.within is_end in let within = authority.within in omega arith
    ]

-- The password ends at the sign of the hostname.
pub password_ends : (tokens : List TokenView) (from until colon place : ℕ) → IsClosed tokens → EndsAt Authority tokens from 0 until → IsTrue (is_at_sign tokens until) → EndsAt Username tokens from 0 colon → IsTrue (is_colon_sign tokens colon) → EndsAt Password tokens (colon + 1) 0 place → (colon < until) × (place ≡ until)
password_ends tokens from until colon place closed authority at_sign username is_a_colon password =
    let le = username_before tokens from until colon authority at_sign username in
    let less : colon < until = elim (cases_eq colon until) [ inl same ↦ absurd (sign_conflict tokens until (ap (is_colon_sign tokens) (sym same) ∙ is_a_colon) at_sign) | inr other ↦ omega arith ] in
    let seen_there = sign_is_seen (codes "@") Authority tokens from 0 until authority at_sign in
    let seen_here : IsTrue (is_seen tokens (colon + 1) 0 until) = seen_same tokens (colon + 1) 0 from 0 until (sym (userinfo_depth tokens from colon until username is_a_colon less)) ∙ seen_there in
    let before : place ≤ until = ends_by Password tokens (colon + 1) 0 place until password (omega arith) (and_from (is_seen tokens (colon + 1) 0 until) (is_at_sign tokens until) seen_here at_sign) in
    let after = password.after in (
      less,
      elim (stops_cases Password tokens (colon + 1) 0 place password) [
        | inl may ↦
            let parts = may_end_parts Password tokens (colon + 1) 0 place may in
            let seen : IsTrue (is_seen tokens from 0 place) = seen_same tokens from 0 (colon + 1) 0 place (userinfo_depth tokens from colon place username is_a_colon (omega arith)) ∙ parts.0 in
            let start = username.after in
            let ge = ends_by Authority tokens from 0 until place authority (omega arith) (and_from (is_seen tokens from 0 place) (is_ending Authority (is_balanced tokens from 0 place) tokens place) seen (at_sign_ends tokens place (is_balanced tokens from 0 place) parts.1)) in
            omega arith
        | inr is_end ↦ let last = closed.last place password.within is_end in let within = authority.within in omega arith
      ],
    )

-- ---- an authority without an end

depth_below : (kind : TokenType) (lower upper : ℕ) → lower ≤ upper → depth_after kind lower ≤ depth_after kind upper
depth_below Open lower upper le = omega arith
depth_below Close lower upper le = omega arith
depth_below kind lower upper le = le

fold_below : (tokens : List TokenView) (lower upper : ℕ) → lower ≤ upper → fold (λ (reached : ℕ) (t : TokenView). depth_after t.kind reached) lower tokens ≤ fold (λ (reached : ℕ) (t : TokenView). depth_after t.kind reached) upper tokens
fold_below [] lower upper le = le
fold_below (token ∷ tokens) lower upper le = fold_below tokens (depth_after token.kind lower) (depth_after token.kind upper) (depth_below token.kind lower upper le)

-- Where an authority ends at End, no slash is seen from its beginning, at any depth.
pub no_slash_in_sight : (tokens : List TokenView) (from depth end other : ℕ) → IsClosed tokens → EndsAt Authority tokens from 0 end → IsTrue (ends_at tokens end) → from ≤ other → IsTrue (is_seen tokens from depth other) → IsTrue (is_slash_sign tokens other) → ⊥
no_slash_in_sight tokens from depth end other closed ends is_end after seen slash =
    let last = closed.last end ends.within is_end in
    let goes_on = sign_goes_on (codes "/") tokens other closed slash in
    let not_end = sign_not_end (codes "/") tokens other slash in
    let level = seen_depth tokens from depth other seen not_end in
    let below = fold_below (slice_range tokens from other) 0 depth (omega arith) in
    let level_there : depth_before tokens from 0 other ≡ depth_before tokens from depth other = omega arith in
    let seen_there : IsTrue (is_seen tokens from 0 other) = seen_same tokens from 0 from depth other level_there ∙ seen in
    ends.least other after (omega arith)
    (and_from (is_seen tokens from 0 other) (is_ending Authority (is_balanced tokens from 0 other) tokens other) seen_there (or_second (is_at_sign tokens other) (is_slash_sign tokens other) (is_search_prefix tokens other) (is_hash_sign tokens other) slash))
  where
    or_second : (a b c d : Bool) → b ≡ true → (a || b || c || d) ≡ true
    or_second true b c d h = refl
    or_second false true c d h = refl
    or_second false false c d h = absurd (false≢true h)

-- The first colon that is seen is found again.
colon_again : (tokens : List TokenView) (first second : ℕ) → IsClosed tokens → EndsAt Protocol tokens 0 0 first → IsTrue (is_colon_sign tokens first) → EndsAt Protocol tokens 0 0 second → second ≡ first
colon_again tokens first second closed ends colon again =
    let seen = sign_is_seen (codes ":") Protocol tokens 0 0 first ends colon in
    let le = ends_by Protocol tokens 0 0 second first again (omega arith) (and_from (is_seen tokens 0 0 first) (is_colon_sign tokens first) seen colon) in
    elim (stops_cases Protocol tokens 0 0 second again) [
      | inl may ↦ let ge = ends_by Protocol tokens 0 0 first second ends (omega arith) may in omega arith
      | inr is_end ↦ let last = closed.last second again.within is_end in let within = ends.within in omega arith
    ]

-- The first colon is found again from the depth that was reached there.
pub colon_found : (tokens : List TokenView) (first depth second : ℕ) → IsClosed tokens → EndsAt Protocol tokens 0 0 first → IsTrue (is_colon_sign tokens first)
    → depth ≡ depth_before tokens 0 0 first → EndsAt Protocol tokens 0 depth second → (second ≡ first) × EndsAt Protocol tokens 0 0 second
colon_found tokens first depth second closed ends colon reached again =
    let level = depth_at_end Protocol tokens 0 0 first ends (sign_not_end (codes ":") tokens first colon) in
    let from_start : EndsAt Protocol tokens 0 0 second = rw (reached, level) at again in
    (colon_again tokens first second closed ends colon from_start, from_start)

-- ---- the whole string

pub missing_is_none : {X Y : Type 0} → (f : X → Y) (o : Option X) (P : Y → Type 0) → is_some o ≡ false → IsSomeAnd (option_map f o) P → ⊥
missing_is_none f None P none some = some
missing_is_none f (Some x) P none some = false≢true (sym none)

pub none_of : {X : Type 0} → (o : Option X) → is_some o ≡ false → o ≡ None
none_of None none = refl
none_of (Some x) none = absurd (false≢true (sym none))

-- A text whose split has no protocol lacks one.
pub lacks_protocol : (IsSpecial : List ℕ → Bool → Type 0) (text : List ℕ) (tokens : List TokenView) (components : SplitTexts) → AreLenientTokens text tokens → IsSplit IsSpecial text tokens components → ((P : SplitTextView → Type 0) → IsSomeAnd components.protocol P → ⊥) → LacksProtocol text
lacks_protocol IsSpecial text tokens components are_tokens split none = elim split [
  | inl relative ↦ (tokens, relative.until, are_tokens, relative.no_colon, relative.is_end)
  | inr absolute ↦ absurd (none (λ protocol. IsSpecial protocol.text absolute.1) absolute.3)
]
