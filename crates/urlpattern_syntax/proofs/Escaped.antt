-- Lemmas on escaped texts.
use Rattle.std.proofs.Common.{◌≡◌, ◌<◌, ℕ, suc, List, [], ◌∷◌, ◌++◌, length, get_or, take, drop, true, false, if◌then◌else◌, codes, refl, sym, ap, ◌∙◌, append_assoc, drop-cons}
use Rattle.std.proofs.lemmas.List.{append_cancel_right, take-append-drop}
use Rattle.std.proofs.lemmas.List.Concat.{flat_map-append}
use Rattle.urlpattern_syntax.specs.RegexpText.{escaped}
use Rattle.urlpattern_syntax.specs.Text.{is_among}

pub escaped-append : (marks xs ys : List ℕ) → escaped marks (xs ++ ys) ≡ escaped marks xs ++ escaped marks ys
unfolding escaped
escaped-append marks xs ys = flat_map-append (λ c. if is_among marks c then codes "\\" ++ c ∷ [] else c ∷ []) xs ys

-- A single character, by whether it is a mark.
pub escaped-mark : (marks : List ℕ) (c : ℕ) → true ≡ is_among marks c → escaped marks (c ∷ []) ≡ codes "\\" ++ c ∷ []
unfolding escaped
escaped-mark marks c e = rw (← e)

pub escaped-other : (marks : List ℕ) (c : ℕ) → false ≡ is_among marks c → escaped marks (c ∷ []) ≡ c ∷ []
unfolding escaped
escaped-other marks c e = rw (← e)

-- A list is the elements before one of its elements, that element, and the elements after.
pub cut_at : {X : Type 0} (xs : List X) (i : ℕ) (x : X) → i < length xs → x ≡ get_or xs i x → xs ≡ take i xs ++ (x ∷ drop (suc i) xs)
cut_at xs i x below here = sym (take-append-drop i xs) ∙ ap (λ rest. take i xs ++ rest) (drop-cons xs i x below ∙ ap (λ y. y ∷ drop (suc i) xs) (sym here))

-- The text before `rest` is escaped, except that `pending`, which begins at `unwritten`, is yet to
-- be written.
pub record IsEscapedTo (marks text unwritten rest written : List ℕ) : Type 0 where
  pub seen : List ℕ
  pub pending : List ℕ
  pub are_seen : text ≡ seen ++ rest
  pub are_pending : unwritten ≡ pending ++ rest
  pub are_escaped : escaped marks seen ≡ written ++ pending

pub escapes_from_start : (marks text : List ℕ) → IsEscapedTo marks text text text []
unfolding escaped
escapes_from_start marks text = record { seen = []; pending = []; are_seen = refl; are_pending = refl; are_escaped = refl }

-- A character more is escaped.
escaped_so_far : (marks seen written pending piece : List ℕ) (c : ℕ) → escaped marks seen ≡ written ++ pending → escaped marks (c ∷ []) ≡ piece
    → escaped marks (seen ++ c ∷ []) ≡ written ++ (pending ++ piece)
escaped_so_far marks seen written pending piece c before now =
    escaped-append marks seen (c ∷ []) ∙ ap (λ xs. xs ++ escaped marks (c ∷ [])) before ∙ ap (λ xs. (written ++ pending) ++ xs) now ∙ append_assoc written pending piece

pub escapes_other : (marks text unwritten rest written after : List ℕ) (c : ℕ) → IsEscapedTo marks text unwritten rest written → rest ≡ c ∷ after → false ≡ is_among marks c
    → IsEscapedTo marks text unwritten after written
escapes_other marks text unwritten rest written after c h cut other = record {
  seen = h.seen ++ c ∷ [];
  pending = h.pending ++ c ∷ [];
  are_seen = h.are_seen ∙ ap (λ xs. h.seen ++ xs) cut ∙ sym (append_assoc h.seen (c ∷ []) after);
  are_pending = h.are_pending ∙ ap (λ xs. h.pending ++ xs) cut ∙ sym (append_assoc h.pending (c ∷ []) after);
  are_escaped = escaped_so_far marks h.seen written h.pending (c ∷ []) c h.are_escaped (escaped-other marks c other);
}

pub escapes_mark : (marks text unwritten rest written after run : List ℕ) (c : ℕ) → IsEscapedTo marks text unwritten rest written → rest ≡ c ∷ after → true ≡ is_among marks c
    → unwritten ≡ run ++ rest → IsEscapedTo marks text rest after ((written ++ run) ++ codes "\\")
escapes_mark marks text unwritten rest written after run c h cut mark is_run =
    let same = append_cancel_right h.pending run rest (sym h.are_pending ∙ is_run) in
    record {
      seen = h.seen ++ c ∷ [];
      pending = c ∷ [];
      are_seen = h.are_seen ∙ ap (λ xs. h.seen ++ xs) cut ∙ sym (append_assoc h.seen (c ∷ []) after);
      are_pending = cut;
      are_escaped = escaped_so_far marks h.seen written h.pending (codes "\\" ++ c ∷ []) c h.are_escaped (escaped-mark marks c mark)
          ∙ ap (λ xs. written ++ (xs ++ (codes "\\" ++ c ∷ []))) same ∙ sym (append_assoc written run (codes "\\" ++ c ∷ []))
          ∙ sym (append_assoc (written ++ run) (codes "\\") (c ∷ []));
    }

-- The text, escaped, is what is written, the pending text and the rest, escaped.
pub escaped-rest : (marks text unwritten rest written : List ℕ) → (h : IsEscapedTo marks text unwritten rest written) → escaped marks text ≡ written ++ (h.pending ++ escaped marks rest)
escaped-rest marks text unwritten rest written h =
    ap (λ xs. escaped marks xs) h.are_seen ∙ escaped-append marks h.seen rest ∙ ap (λ xs. xs ++ escaped marks rest) h.are_escaped ∙ append_assoc written h.pending (escaped marks rest)

pub escaped-at_mark : (marks text unwritten rest written after run : List ℕ) (c : ℕ) → IsEscapedTo marks text unwritten rest written → rest ≡ c ∷ after → true ≡ is_among marks c
    → unwritten ≡ run ++ rest → escaped marks text ≡ written ++ (run ++ (codes "\\" ++ (c ∷ escaped marks after)))
escaped-at_mark marks text unwritten rest written after run c h cut mark is_run =
    let same = append_cancel_right h.pending run rest (sym h.are_pending ∙ is_run) in
    let here = ap (λ xs. escaped marks xs) cut ∙ escaped-append marks (c ∷ []) after ∙ ap (λ xs. xs ++ escaped marks after) (escaped-mark marks c mark)
    ∙ append_assoc (codes "\\") (c ∷ []) (escaped marks after) in
    escaped-rest marks text unwritten rest written h ∙ ap (λ xs. written ++ (xs ++ escaped marks rest)) same ∙ ap (λ xs. written ++ (run ++ xs)) here
