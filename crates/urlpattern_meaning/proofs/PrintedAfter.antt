-- The text after a printed part, and the properties that are proved of it.
use Rattle.std.proofs.Common.{◌≡◌, ◌≢◌, ℕ, Bool, true, false, List, [], ◌∷◌, ◌++◌, Option, Some, None, refl, append_assoc}
use Rattle.std.specs.Prelude.{IsTrue, ◌&&◌}
use Rattle.std.proofs.lemmas.Bool.{false≢true}
use Rattle.urlpattern_syntax.proofs.TokenExamples.{no}
use Rattle.urlpattern_syntax.specs.Options.{OptionsView}
use Rattle.urlpattern_syntax.specs.Parts.{PartView}
use Rattle.urlpattern_syntax.specs.Pieces.{ArePieces, BeginsWithKind, Ending, IsPiece, Piece, is_modifier, is_placeholder, is_regexp, Ending as endings}
use Rattle.urlpattern_syntax.specs.Reading.{items_from, joined_items}
use Rattle.urlpattern_syntax.specs.RegexpText.{is_empty, is_fixed_text, is_unmodified}
use Rattle.urlpattern_syntax.specs.Text.{BeginsWith, byte_len, is_name_part}
use Rattle.urlpattern_syntax.specs.Tokens.{TokenView, end_of}
use Rattle.urlpattern_meaning.specs.Printing.{first_part, continues_name, is_name_alone, last_of, printed_after, absorbs_next}
use Rattle.urlpattern_meaning.proofs.PrintedTokens.{Run, done}
use Rattle.urlpattern_meaning.proofs.RoundTripWords.{AreItemsOf}

-- The text after a part, which begins with the next part, takes nothing from the part.
pub record Behind (options : OptionsView) (before : PartView) (next : Option PartView) (text : List ℕ) (tokens : List TokenView) : Type 0 where
  pub no_modifier : is_fixed_text before.kind ≡ false → IsTrue (is_unmodified before.modifier) → ¬ BeginsWithKind is_modifier tokens
  pub no_placeholder : IsTrue (is_fixed_text before.kind) → before.value ≢ [] → last_of before.value ≡ options.prefix → ¬ BeginsWithKind is_placeholder tokens
  pub no_regexp : IsTrue (is_name_alone before) → IsTrue (is_unmodified before.modifier) → absorbs_next before next ≡ false → ¬ BeginsWithKind is_regexp tokens
  pub no_name_part : IsTrue (is_name_alone before) → IsTrue (is_unmodified before.modifier) → absorbs_next before next ≡ false → ¬ BeginsWith is_name_part text

-- The text after a part, if there is one, takes nothing from the part.
abbrev pub AfterAny : OptionsView → (before next : Option PartView) → List ℕ → List TokenView → Type 0
AfterAny options None next text tokens = Unit {0}
AfterAny options (Some before) next text tokens = Behind options before next text tokens

pub after_any : (options : OptionsView) (before next : Option PartView) (text : List ℕ) (tokens : List TokenView) → ((part : PartView) → before ≡ Some part → Behind options part next text tokens) → AfterAny options before next text tokens
after_any options None next text tokens h = tt
after_any options (Some before) next text tokens h = h before refl

-- The properties of the parts after one, where `number` groups before them have no name.
pub record ReadsBack (options : OptionsView) (whole : List ℕ) (before : Option PartView) (number : ℕ) (parts : List PartView) : Type 0 where
  pub tokens : List TokenView
  pub pieces : List Piece
  pub run : Run (byte_len whole) [] (printed_after options before parts) tokens
  pub are_pieces : ArePieces options.prefix (tokens ++ end_of whole ∷ []) pieces (endings.Stops (end_of whole))
  pub are_items : AreItemsOf options parts (joined_items (items_from number pieces))
  pub behind : AfterAny options before (first_part parts) (printed_after options before parts) (tokens ++ end_of whole ∷ [])

-- ---- the end

behind_end : (options : OptionsView) (whole : List ℕ) (before : PartView) → Behind options before None [] (end_of whole ∷ [])
behind_end options whole before = record {
  no_modifier = λ _ _. no;
  no_placeholder = λ _ _ _. no;
  no_regexp = λ _ _ _. no;
  no_name_part = λ _ _ _. no;
}

pub reads_end : (options : OptionsView) (whole : List ℕ) (before : Option PartView) (number : ℕ) → ReadsBack options whole before number []
reads_end options whole before number = record {
  tokens = [];
  pieces = [];
  run = done;
  are_pieces = ([], refl, refl);
  are_items = refl;
  behind = after_any options before None [] (end_of whole ∷ []) (λ part _. behind_end options whole part);
}

-- ---- one more piece

pub are_more : (point : List ℕ) (front more last : List TokenView) (piece : Piece) (rest : List Piece) (ending : Ending) → IsPiece point front piece (more ++ last) → ArePieces point (more ++ last) rest ending → ArePieces point ((front ++ more) ++ last) (piece ∷ rest) ending
are_more point front more last piece rest ending is are = (front, more ++ last, append_assoc front more last, is, are)

-- ---- texts that a name does not take

third : (a b c : Bool) → a ≡ true → b ≡ true → (a && b && c) ≡ false → c ≡ false
third true true c e f h = h
third true false c e f h = absurd (false≢true f)
third false b c e f h = absurd (false≢true e)

-- The next part does not go on with a name alone before it, where the name does not take it.
pub goes_not : (before next : PartView) → IsTrue (is_name_alone before) → IsTrue (is_unmodified before.modifier) → absorbs_next before (Some next) ≡ false → continues_name next ≡ false
goes_not before next alone plain h = third (is_name_alone before) (is_unmodified before.modifier) (continues_name next) alone plain h

-- A part without prefix and suffix goes on exactly where its value or its name does.
pub goes_by : (prefix suffix : List ℕ) (last : Bool) → prefix ≡ [] → suffix ≡ [] → (is_empty prefix && is_empty suffix && last) ≡ last
goes_by [] [] last e f = refl
goes_by [] (c ∷ suffix) last e f = absurd (cc f)
goes_by (c ∷ prefix) suffix last e f = absurd (cc e)
