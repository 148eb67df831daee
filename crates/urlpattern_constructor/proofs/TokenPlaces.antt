-- Lemmas on the token at a position, by a read of the code's tokens.
use Rattle.std.proofs.Common.{◌≡◌, ℕ, zero, suc, ◌-◌, ◌<◌, Bool, true, false, Some, None, List, [], ◌∷◌, length, get_or, Bor, refl, sym, ap, ◌∙◌, arith, rules}
use Rattle.std.proofs.lemmas.Option.{slice_get-get_or, slice_get-map, slice_get_past, slice_get_read}
use Rattle.std.proofs.lemmas.Slice.Eq.{bytes_eq-Decides}
use Rattle.std.proofs.lemmas.Str.{IsUtf8-from_ascii, chars-IsAscii}
use Rattle.std.specs.Option.{option_map}
use Rattle.std.specs.Prelude.{slice_get}
use Rattle.std.specs.Slice.{IsItemAt}
use Rattle.std.specs.Str.{IsAscii, IsUtf8, bytes_eq, chars}
use Rattle.urlpattern_constructor.specs.Split.{passes_at, follows_modified, takes_modifier}
use Rattle.urlpattern_syntax.specs.Parsing.{views}
use Rattle.urlpattern_syntax.specs.Tokens.{TokenView, token_view}
use Rattle.urlpattern_syntax.specs.declared.tokenizer.Token.{Token}
use Rattle.urlpattern_syntax.specs.declared.tokenizer.TokenType.TheVariants.{Open}
use Rattle.urlpattern_syntax.proofs.TextLemmas.{bytes_same}

-- ---- reads

-- The view of the token at an index of the code's tokens.
pub view_at : (tokens : List Token) (i : ℕ) (token : Token) → i < length tokens → token ≡ get_or tokens i token → slice_get (views tokens) i ≡ Some (token_view token)
view_at tokens i token within is =
    slice_get-map token_view tokens i ∙ ap (option_map token_view) (slice_get_read tokens (length tokens) i token refl within is)

-- The view of the token at an index, read with another token as the default.
pub view_read : (tokens : List Token) (i : ℕ) (other : Token) → i < length tokens → slice_get (views tokens) i ≡ Some (token_view (get_or tokens i other))
view_read tokens i other within = slice_get-map token_view tokens i ∙ ap (option_map token_view) (slice_get-get_or tokens i other within)

-- The default of a read without a token.
abbrev pub no_token : Token
no_token = record { kind = Open; index = 0; value = record { ref_ptr = (0, 0); now = [] } }

pub at_view : (test : TokenView → Bool) (tokens : List TokenView) (i : ℕ) (token : TokenView) → slice_get tokens i ≡ Some token → passes_at test tokens i ≡ test token
at_view test tokens i token is = rw is refl

-- The token that `get` finds.
pub at_found : (test : TokenView → Bool) (tokens : List Token) (i : ℕ) (found : Bor Token) → IsItemAt tokens i (Some found) → passes_at test (views tokens) i ≡ test (token_view found.now)
at_found test tokens i found h = at_view test (views tokens) i (token_view found.now) (view_at tokens i found.now h.3.0 h.1)

pub at_past : (test : TokenView → Bool) (tokens : List Token) (i : ℕ) → IsItemAt tokens i None → passes_at test (views tokens) i ≡ false
at_past test tokens i h =
    let none : slice_get (views tokens) i ≡ None = slice_get-map token_view tokens i ∙ ap (option_map token_view) (slice_get_past tokens i h.3) in
    rw none refl

-- ---- marks

same_bool : (a b : Bool) → (a ≡ true → b ≡ true) → (b ≡ true → a ≡ true) → a ≡ b
same_bool true true f g = refl
same_bool true false f g = sym (f refl)
same_bool false true f g = g refl
same_bool false false f g = refl

-- A single ASCII character is compared as its byte.
pub mark_bytes : (bytes : List ℕ) (mark : ℕ) → IsUtf8 bytes → mark < 128 → bytes_eq bytes (mark ∷ []) ≡ bytes_eq (chars bytes) (mark ∷ [])
mark_bytes bytes mark utf8 ascii =
    let is_ascii : IsAscii (mark ∷ []) = search rules in
    same_bool _ _
    (λ h. (bytes_eq-Decides (chars bytes) (mark ∷ [])).1 (ap chars ((bytes_eq-Decides bytes (mark ∷ [])).0 h) ∙ chars-IsAscii (mark ∷ []) is_ascii))
    (λ h. (bytes_eq-Decides bytes (mark ∷ [])).1 (bytes_same bytes (mark ∷ []) utf8 (IsUtf8-from_ascii (mark ∷ []) is_ascii) ((bytes_eq-Decides (chars bytes) (mark ∷ [])).0 h ∙ sym (chars-IsAscii (mark ∷ []) is_ascii))))

-- ---- signs

-- The token before a place that is not the first.
pub follows_modified_before : (tokens : List TokenView) (i : ℕ) → ¬ (i ≡ 0) → follows_modified tokens i ≡ passes_at (λ token. takes_modifier token.kind) tokens (i - 1)
follows_modified_before tokens zero h = absurd (h refl)
follows_modified_before tokens (suc before) h =
    let one_less : before ≡ suc before - 1 = omega arith in
    ap (passes_at (λ token. takes_modifier token.kind) tokens) one_less
