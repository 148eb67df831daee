-- A printed pattern reads as the joined parts and as nothing else.
use Rattle.std.proofs.Common.{◌≡◌, ℕ, ◌<◌, arith, List, [], ◌∷◌, refl, sym, ap, ◌∙◌, subst, inl, inr}
use Rattle.std.specs.Prelude.{AllPairs, Contains, Result, Ok, Err, ◌↔◌}
use Rattle.std.proofs.lemmas.Bool.{both_ways}
use Rattle.urlpattern_syntax.proofs.ReadingLemmas.{item_names, names-AreParts}
use Rattle.urlpattern_syntax.proofs.TokenExamples.{literals}
use Rattle.urlpattern_syntax.specs.Errors.{ErrorView}
use Rattle.urlpattern_syntax.specs.Options.{OptionsView}
use Rattle.urlpattern_syntax.specs.Parts.{PartView}
use Rattle.urlpattern_syntax.specs.Pieces.{Ending as endings}
use Rattle.urlpattern_syntax.specs.Reading.{AreParts, Encoding, FirstFails, Item, Reads, Rejects, demands, items_of}
use Rattle.urlpattern_syntax.specs.RegexpText.{group_names}
use Rattle.urlpattern_syntax.specs.Tokens.{end_of}
use Rattle.urlpattern_meaning.specs.Printing.{HaveTexts, Keeps, KeepsTexts, encoded_texts, joined, printed}
use Rattle.urlpattern_meaning.specs.RoundTrip.{ArePatternParts, AreUnskipped, IsPrefixPoint, IsPrintable, IsStandard, KeepsOrFails, MayKeep, ReadsBack, WereRead}
use Rattle.urlpattern_meaning.proofs.JoinedParts.{joined_apart, joined_pattern_parts, joined_unskipped}
use Rattle.urlpattern_meaning.proofs.NameLaws.{Differ, NewNames}
use Rattle.urlpattern_meaning.proofs.PrintedParts.{prints_its_parts}
use Rattle.urlpattern_meaning.proofs.PrintingLaws.{joined_texts, printed_joined}
use Rattle.urlpattern_meaning.proofs.ReadingLaws.{text_pieces_one}
use Rattle.urlpattern_meaning.proofs.ReadParts.{read_parts_are_pattern_parts}
use Rattle.urlpattern_meaning.proofs.RoundTripWords.{PrintsItsParts}
use Rattle.urlpattern_meaning.proofs.StandingItems.{AllStand, EachText, distinct_new, each_contained, items_stand, stand_met, stand_only, stand_parts, stand_failing}
use Rattle.urlpattern_meaning.proofs.TokensUnique.{tokens_or_fault}

-- ---- parts whose printed text has tokens and pieces that spell them

stand_names : (options : OptionsView) (Of : List ℕ → Type 0) (parts : List PartView) (items : List Item) → AllStand options Of parts items → group_names parts ≡ item_names items
stand_names options Of parts items stands =
    names-AreParts options (λ text answer. answer ≡ Ok text) items parts
    (stand_parts options (λ text answer. answer ≡ Ok text) Of (λ text of. refl) parts items stands)

none_contained : (name : List ℕ) → ¬ Contains [] name
none_contained name has = let lt : has.0 < 0 = has.1 in absurd (omega arith)

module _ (options : OptionsView) (encoding : Encoding) (Of : List ℕ → Type 0) (parts : List PartView) (prints : PrintsItsParts options parts)
    (facts : ArePatternParts options parts) (filled : HaveTexts parts) (texts : EachText Of (encoded_texts parts)) where
  all_stand : AllStand options Of parts (items_of prints.pieces)
  all_stand = items_stand options Of 0 parts (items_of prints.pieces) prints.are_items facts.fields facts.names filled texts

  all_new : NewNames [] (items_of prints.pieces)
  all_new =
      distinct_new [] (items_of prints.pieces) (λ k d lt. none_contained _)
      (subst (AllPairs Differ) (stand_names options Of parts (items_of prints.pieces) all_stand) facts.distinct)

  -- The printed pattern reads as the parts, where the encoding may return each of their texts
  -- unchanged.
  reads_itself : ((text : List ℕ) → Of text → encoding text (Ok text)) → Reads (printed options parts) options encoding parts
  reads_itself itself = record {
    tokens = prints.tokens;
    pieces = prints.pieces;
    found = end_of (printed options parts);
    are_tokens = prints.are_tokens;
    are_pieces = prints.are_pieces;
    are_met = stand_met options encoding Of itself [] parts (items_of prints.pieces) (end_of (printed options parts)) all_stand all_new refl;
    are_parts = stand_parts options encoding Of itself parts (items_of prints.pieces) all_stand;
  }

  -- The printed pattern reads as no other parts, where the encoding changes none of their texts.
  reads_only : ((text other : List ℕ) → Of text → encoding text (Ok other) → other ≡ text) → (others : List PartView) → Reads (printed options parts) options encoding others → others ≡ parts
  reads_only only others reads =
      let e = text_pieces_one (printed options parts) options.prefix reads.tokens prints.tokens reads.pieces prints.pieces (endings.Stops reads.found) (endings.Stops (end_of (printed options parts)))
      reads.are_tokens prints.are_tokens reads.are_pieces prints.are_pieces in
      stand_only options encoding Of only parts (items_of prints.pieces) others all_stand (subst (λ x. AreParts options encoding (items_of x) others) e.0 reads.are_parts)

  -- The printed pattern is rejected only by an error that the encoding may return for one of the
  -- texts.
  reads_refused : (error : ErrorView) → Rejects (printed options parts) options encoding error → (text : List ℕ) × Of text × encoding text (Err error)
  reads_refused error (inl fault) = absurd (tokens_or_fault (printed options parts) prints.tokens fault.0 fault.1 prints.are_tokens fault.2)
  reads_refused error (inr refused) =
      let e = text_pieces_one (printed options parts) options.prefix refused.tokens prints.tokens refused.pieces prints.pieces refused.ending (endings.Stops (end_of (printed options parts)))
      refused.are_tokens prints.are_tokens refused.are_pieces prints.are_pieces in
      stand_failing options encoding Of [] parts (items_of prints.pieces) (end_of (printed options parts)) error all_stand all_new refl
      (subst (λ x. FirstFails encoding (demands (items_of prints.pieces) x) error) e.1
      (subst (λ x. FirstFails encoding (demands (items_of x) refused.ending) error) e.0 refused.fails))

-- ---- joined parts

module _ (options : OptionsView) (encoding : Encoding) (Of : List ℕ → Type 0) (parts : List PartView)
    (printable : IsPrintable options parts) (texts : EachText Of (encoded_texts (joined parts))) where
  joined_prints : PrintsItsParts options (joined parts)
  joined_prints =
      prints_its_parts options (joined parts) printable.point (joined_pattern_parts options parts printable.pattern_parts) (joined_texts parts printable.texts)
      (joined_unskipped parts printable.unskipped) (joined_apart parts)

  same_printed : printed options (joined parts) ≡ printed options parts
  same_printed = printed_joined options parts printable.texts

  -- The printed pattern reads as the joined parts, where the encoding may return each of their
  -- texts unchanged.
  pub reads_back : ((text : List ℕ) → Of text → encoding text (Ok text)) → Reads (printed options parts) options encoding (joined parts)
  reads_back itself =
      subst (λ x. Reads x options encoding (joined parts)) same_printed
      (reads_itself options encoding Of (joined parts) joined_prints (joined_pattern_parts options parts printable.pattern_parts) (joined_texts parts printable.texts) texts itself)

  -- The printed pattern reads as no other parts, where the encoding changes none of the texts of
  -- the joined parts.
  pub reads_back_only : ((text other : List ℕ) → Of text → encoding text (Ok other) → other ≡ text) → (others : List PartView) → Reads (printed options parts) options encoding others → others ≡ joined parts
  reads_back_only only others reads =
      reads_only options encoding Of (joined parts) joined_prints (joined_pattern_parts options parts printable.pattern_parts) (joined_texts parts printable.texts) texts only others
      (subst (λ x. Reads x options encoding others) (sym same_printed) reads)

  -- The printed pattern is rejected only by an error that the encoding may return for one of the
  -- texts.
  pub refused_back : (error : ErrorView) → Rejects (printed options parts) options encoding error → (text : List ℕ) × Of text × encoding text (Err error)
  refused_back error refuses =
      reads_refused options encoding Of (joined parts) joined_prints (joined_pattern_parts options parts printable.pattern_parts) (joined_texts parts printable.texts) texts error
      (subst (λ x. Rejects x options encoding error) (sym same_printed) refuses)

  -- The parts that the printed pattern reads as print as the same text.
  pub same_back : ((text other : List ℕ) → Of text → encoding text (Ok other) → other ≡ text) → (others : List PartView) → Reads (printed options parts) options encoding others → printed options others ≡ printed options parts
  same_back only others reads = ap (printed options) (reads_back_only only others reads) ∙ same_printed

-- ---- encodings that keep the texts

-- The only result of the encoding for the text is the text itself.
abbrev pub IsKept : Encoding → List ℕ → Type 0
IsKept encoding text = (answer : Result (List ℕ) ErrorView) → encoding text answer ↔ (answer ≡ Ok text)

pub each_kept : (encoding : Encoding) (texts : List (List ℕ)) → KeepsTexts encoding texts → EachText (IsKept encoding) texts
each_kept encoding [] keeps = tt
each_kept encoding (text ∷ texts) keeps = (keeps.0, each_kept encoding texts keeps.1)

pub kept_itself : (encoding : Encoding) (text : List ℕ) → IsKept encoding text → encoding text (Ok text)
kept_itself encoding text kept = (kept (Ok text)).1 refl

pub kept_only : (encoding : Encoding) (text other : List ℕ) → IsKept encoding text → encoding text (Ok other) → other ≡ text
kept_only encoding text other kept answers = let e : Ok other ≡ Ok text = (kept (Ok other)).0 answers in cc e

pub kept_answered : (encoding : Encoding) (text : List ℕ) (error : ErrorView) → IsKept encoding text → ¬ encoding text (Err error)
kept_answered encoding text error kept answers = let e : Err error ≡ Ok text = (kept (Err error)).0 answers in absurd (cc e)

module _ (options : OptionsView) (encoding : Encoding) (parts : List PartView) (printable : IsPrintable options parts) (keeps : Keeps encoding parts) where
  pub kept_reads : Reads (printed options parts) options encoding (joined parts)
  kept_reads = reads_back options encoding (IsKept encoding) parts printable (each_kept encoding (encoded_texts (joined parts)) keeps.1) (kept_itself encoding)

  pub kept_reads_only : (others : List PartView) → Reads (printed options parts) options encoding others → others ≡ joined parts
  kept_reads_only = reads_back_only options encoding (IsKept encoding) parts printable (each_kept encoding (encoded_texts (joined parts)) keeps.1) (kept_only encoding)

  pub kept_unrefused : (error : ErrorView) → ¬ Rejects (printed options parts) options encoding error
  kept_unrefused error refuses =
      let answered = refused_back options encoding (IsKept encoding) parts printable (each_kept encoding (encoded_texts (joined parts)) keeps.1) error refuses in
      kept_answered encoding answered.0 error answered.1 answered.2

  pub kept_same : (others : List PartView) → Reads (printed options parts) options encoding others → printed options others ≡ printed options parts
  kept_same = same_back options encoding (IsKept encoding) parts printable (each_kept encoding (encoded_texts (joined parts)) keeps.1) (kept_only encoding)

  -- All four properties of printed patterns.
  pub kept_reads_back : ReadsBack (printed options parts) options encoding parts
  kept_reads_back = record { reads = kept_reads; only = kept_reads_only; not_refused = kept_unrefused; same = kept_same }

-- ---- encodings that may return an error

module _ (options : OptionsView) (encoding : Encoding) (parts : List PartView) (printable : IsPrintable options parts) where
  -- The printed pattern may read as the joined parts.
  pub answered_reads : MayKeep encoding parts → Reads (printed options parts) options encoding (joined parts)
  answered_reads keeps = reads_back options encoding (Contains (encoded_texts (joined parts))) parts printable (each_contained (encoded_texts (joined parts))) keeps

  -- The joined parts are all that the printed pattern may read as.
  pub answered_only : KeepsOrFails encoding parts → (others : List PartView) → Reads (printed options parts) options encoding others → others ≡ joined parts
  answered_only only = reads_back_only options encoding (Contains (encoded_texts (joined parts))) parts printable (each_contained (encoded_texts (joined parts))) only

  -- The printed pattern is rejected only by an error that the encoding may return for one of the
  -- texts of the joined parts.
  pub answered_refused : (error : ErrorView) → Rejects (printed options parts) options encoding error → (text : List ℕ) × Contains (encoded_texts (joined parts)) text × encoding text (Err error)
  answered_refused = refused_back options encoding (Contains (encoded_texts (joined parts))) parts printable (each_contained (encoded_texts (joined parts)))

-- ---- parts that were read

pub read_printable : (text : List ℕ) (options : OptionsView) (encoding : Encoding) (parts : List PartView) → IsPrefixPoint options.prefix → Reads text options encoding parts → HaveTexts parts → AreUnskipped parts → IsPrintable options parts
read_printable text options encoding parts point reads filled unskipped =
    record { point = point; pattern_parts = read_parts_are_pattern_parts text options encoding parts reads; texts = filled; unskipped = unskipped }

pub standard_point : (options : OptionsView) → IsStandard options → IsPrefixPoint options.prefix
unfolding literals
standard_point options (inl like) = subst IsPrefixPoint (sym like.1) tt
standard_point options (inr (inl like)) = subst IsPrefixPoint (sym like.1) tt
standard_point options (inr (inr like)) = subst IsPrefixPoint (sym like.1) (both_ways _ refl, both_ways _ refl)

pub were_read_printable : (text : List ℕ) (options : OptionsView) (encoding : Encoding) (parts : List PartView) → WereRead text options encoding parts → IsPrintable options parts
were_read_printable text options encoding parts read = read_printable text options encoding parts (standard_point options read.standard) read.reads read.texts read.unskipped
