-- The ends of a username and a password, among the tokens of a source.
use Rattle.std.proofs.Common.{◌≡◌, ℕ, ◌+◌, ◌<◌, false, true, codes, length, arith}
use Rattle.std.proofs.lemmas.Bool.{both_ways}
use Rattle.std.specs.Prelude.{IsTrue}
use Rattle.urlpattern_constructor.specs.Split.{EndsAt, is_at_sign, is_colon_sign}
use Rattle.urlpattern_constructor.specs.Splitting.{IsSource, tokens_of}
use Rattle.urlpattern_constructor.specs.declared.sections.Position.{Position}
use Rattle.urlpattern_constructor.specs.declared.sections.Section.TheVariants.{Authority, Password, Username}
use Rattle.urlpattern_constructor.specs.declared.tokens.Source.{Source}
use Rattle.urlpattern_constructor.proofs.SplitLemmas.{password_ends, sign_goes_on, username_alone}
use Rattle.urlpattern_constructor.proofs.TextBetween.{source_closed, tokens_len}

-- A username without a password ends at the sign of the hostname, after which more tokens follow.
pub record EndsAlone (source : Source) (from until place : ℕ) : Type 0 where
  pub username : EndsAt Username (tokens_of source) from 0 place
  pub same : place ≡ until
  pub goes : until + 1 < length source.tokens.now

-- A username ends at a colon before the sign of the hostname, and the password at that sign.
pub record EndsBefore (source : Source) (from until colon place : ℕ) : Type 0 where
  pub username : EndsAt Username (tokens_of source) from 0 colon
  pub less : colon < until
  pub same : place ≡ until
  pub goes : until + 1 < length source.tokens.now

module _ (source : Source) (from : Position) (until : ℕ) (is_source : IsSource source) (authority : EndsAt Authority (tokens_of source) from.index 0 until) (sign : IsTrue (is_at_sign (tokens_of source) until)) (level : from.depth ≡ 0) where
  more_follow : until + 1 < length source.tokens.now
  more_follow =
      let more = sign_goes_on (codes "@") (tokens_of source) until (source_closed source is_source) sign in
      let size = tokens_len source in
      omega arith

  pub ends_alone : (place : ℕ) → EndsAt Username (tokens_of source) from.index from.depth place → is_colon_sign (tokens_of source) place ≡ false
      → EndsAlone source from.index until place
  ends_alone place ends no_colon =
      let username : EndsAt Username (tokens_of source) from.index 0 place = rw level at ends in
      record {
        username = username;
        same = username_alone (tokens_of source) from.index until place (source_closed source is_source) authority sign username (λ colon. both_ways (is_colon_sign (tokens_of source) place) no_colon colon);
        goes = more_follow;
      }

  pub ends_before : (colon place : ℕ) (after : Position) → EndsAt Username (tokens_of source) from.index from.depth colon → is_colon_sign (tokens_of source) colon ≡ true
      → after.index ≡ colon + 1 → after.depth ≡ 0 → EndsAt Password (tokens_of source) after.index after.depth place
      → EndsBefore source from.index until colon place
  ends_before colon place after ends is_colon index depth more =
      let username : EndsAt Username (tokens_of source) from.index 0 colon = rw level at ends in
      let password : EndsAt Password (tokens_of source) (colon + 1) 0 place = rw (index, depth) at more in
      let found = password_ends (tokens_of source) from.index until colon place (source_closed source is_source) authority sign username is_colon password in
      record { username = username; less = found.0; same = found.1; goes = more_follow }
