-- The groups of a match: a map of them by the characters of its keys, and names with captures.
use Rattle.std.proofs.Common.{arith, length, ◌≡◌, ℕ, Bool, true, false, List, [], ◌∷◌, ◌++◌, reverse, zip, bytes_eq, refl, sym, ap, ◌∙◌, ⊎_elim, inl, inr, cond, map, Bor}
use Rattle.std.proofs.lemmas.Bool.{cases_Bool, cond-true, cond-false, false≢true}
use Rattle.std.proofs.lemmas.List.{reverse-append}
use Rattle.std.proofs.lemmas.Str.{encodes-chars, IsUtf8-string_bytes}
use Rattle.std.specs.Cmp.Lexicographic.{bytes_decides}
use Rattle.std.specs.HashMap.{HashMap, Updates, get_by_text}
use Rattle.std.specs.Map.{lookup, IsKeyTest, AreApart, KeepsOthers}
use Rattle.std.specs.Option.{option_flatten, option_or}
use Rattle.std.specs.Prelude.{◌⊎◌, Option, Some, None, String, option_copied, option_map, string_bytes, encode_utf8_all}
use Rattle.std.specs.Str.{chars, IsUtf8}
use Rattle.std.specs.String.{string_eq}
use Rattle.std.specs.declared.alloc.Global.{Global}
use Rattle.urlpattern_matches.specs.GroupTexts.{captured_bytes}
use Rattle.urlpattern_matches.specs.ResultViews.{group_in, group_of}
use Rattle.urlpattern_meaning.specs.PartMeaning.{Captures}
use Rattle.urlpattern_syntax.proofs.StringTexts.{text_bytes}
use Rattle.urlpattern_syntax.specs.Text.{option_text, text_of}

-- ---- keys by their characters

text-same : (x y : String Global) → string_bytes x ≡ string_bytes y → text_of x ≡ text_of y
text-same x y e = ap chars e

bytes-same : (x y : String Global) → text_of x ≡ text_of y → string_bytes x ≡ string_bytes y
bytes-same x y e = sym (text_bytes x) ∙ ap encode_utf8_all e ∙ text_bytes y

-- The characters of two keys are equal if and only if the keys are.
pub text-eq : (x y : String Global) → bytes_eq (text_of x) (text_of y) ≡ string_eq x y
text-eq x y =
    ⊎_elim
    (λ same. (bytes_decides (text_of x) (text_of y)).1 (text-same x y ((bytes_decides (string_bytes x) (string_bytes y)).0 same)) ∙ sym same)
    (λ other. ⊎_elim
    (λ alike. absurd (false≢true (sym other ∙ (bytes_decides (string_bytes x) (string_bytes y)).1 (bytes-same x y ((bytes_decides (text_of x) (text_of y)).0 alike)))))
    (λ unlike. unlike ∙ sym other)
    (cases_Bool (bytes_eq (text_of x) (text_of y))))
    (cases_Bool (string_eq x y))

-- Tests with equal results find the same.
lookup-alike : {K X : Type 0} (test other : K → Bool) → ((key : K) → test key ≡ other key) → (entries : List (K × X)) → lookup test entries ≡ lookup other entries
lookup-alike test other alike [] = refl
lookup-alike test other alike (entry ∷ entries) =
    ap (λ b. cond b (Some entry.1) (lookup test entries)) (alike entry.0)
    ∙ ap (λ found. cond (other entry.0) (Some entry.1) found) (lookup-alike test other alike entries)

other_entries : {K X : Type 0} (eq : K → K → Bool) (test : K → Bool) (old new : List (K × X)) → KeepsOthers eq test old new → (other : K → Bool) → IsKeyTest eq other → AreApart test other → lookup other new ≡ lookup other old
unfolding KeepsOthers
other_entries eq test old new keeps = keeps

-- A test of keys by the characters of a name is a test for equality with one key.
tests-key : (name : List ℕ) (x y : String Global) → bytes_eq name (text_of x) ≡ true → bytes_eq name (text_of y) ≡ string_eq x y
tests-key name x y is = ap (λ text. bytes_eq text (text_of y)) ((bytes_decides name (text_of x)).0 is) ∙ text-eq x y

-- What a map has at a name after a capture is put at a key.
pub group_in-put : {S : Type 0} (old new : HashMap (String Global) (Option (String Global)) S) (key : String Global) (capture : Option (String Global)) →
    Updates string_eq old new key (Some capture) → (name : List ℕ) →
    group_in new name ≡ cond (bytes_eq name (text_of key)) (Some (option_map text_of capture)) (group_in old name)
group_in-put old new key capture put name =
    ⊎_elim
    (λ same.
    ap (option_map (option_map text_of)) (lookup-alike (λ k. bytes_eq name (text_of k)) (string_eq key) (λ k. tests-key name key k same) new.entries ∙ put.1)
    ∙ sym (cond-true (bytes_eq name (text_of key)) (Some (option_map text_of capture)) (group_in old name) same))
    (λ other.
    let apart : AreApart (string_eq key) (λ k. bytes_eq name (text_of k)) = λ k same.
    ap (bytes_eq name) (sym (text-same key k ((bytes_decides (string_bytes key) (string_bytes k)).0 same))) ∙ other in
    ap (option_map (option_map text_of)) (other_entries string_eq (string_eq key) old.entries new.entries put.3 (λ k. bytes_eq name (text_of k)) (λ x y is. tests-key name x y is) apart)
    ∙ sym (cond-false (bytes_eq name (text_of key)) (Some (option_map text_of capture)) (group_in old name) other))
    (cases_Bool (bytes_eq name (text_of key)))

-- ---- names with captures

pub cond-or : {X : Type 0} (b : Bool) (x : X) (y z : Option X) → cond b (Some x) (option_or y z) ≡ option_or (cond b (Some x) y) z
cond-or true x y z = refl
cond-or false x y z = refl

pub lookup-append : {K X : Type 0} (test : K → Bool) (entries others : List (K × X)) → lookup test (entries ++ others) ≡ option_or (lookup test entries) (lookup test others)
lookup-append test [] others = refl
lookup-append test (entry ∷ entries) others =
    ap (λ found. cond (test entry.0) (Some entry.1) found) (lookup-append test entries others)
    ∙ cond-or (test entry.0) entry.1 (lookup test entries) (lookup test others)

or-cond : {X : Type 0} (b : Bool) (x : X) (y z : Option X) → option_or (option_or y (cond b (Some x) None)) z ≡ option_or y (cond b (Some x) z)
or-cond true x None z = refl
or-cond false x None z = refl
or-cond b x (Some y) z = refl

-- The first of some groups counts if no later group has its name, and is ignored otherwise.
pub group_of-first : (name : List ℕ) (first : List ℕ) (names : List (List ℕ)) (capture : Option (List ℕ)) (captures : Captures) (before : Option (Option (List ℕ))) →
    option_or (group_of (first ∷ names) (capture ∷ captures) name) before ≡ option_or (group_of names captures name) (cond (bytes_eq name first) (Some capture) before)
group_of-first name first names capture captures before =
    ap (λ entries. option_or (lookup (bytes_eq name) entries) before) (reverse-append ((first, capture) ∷ []) (zip names captures))
    ∙ ap (λ found. option_or found before) (lookup-append (bytes_eq name) (reverse (zip names captures)) ((first, capture) ∷ []))
    ∙ or-cond (bytes_eq name first) capture (group_of names captures name) before

-- No groups are left if names or captures are at their end.
group_of-end : (names : List (List ℕ)) (captures : Captures) (name : List ℕ) → (names ≡ []) ⊎ (captures ≡ []) → group_of names captures name ≡ None
group_of-end names captures name (inl e) = ap (λ rest. group_of rest captures name) e
group_of-end [] captures name (inr e) = refl
group_of-end (first ∷ names) captures name (inr e) = ap (λ rest. group_of (first ∷ names) rest name) e

-- ---- a map that grows group by group

-- After the capture of a name is put, later captures are still to come.
pub groups-more : {S : Type 0} (before names : List (String Global)) (before_captures captures : List (Option (Bor (List ℕ)))) (name key : String Global) (capture : Option (Bor (List ℕ))) (value : Option (String Global))
    (old new : HashMap (String Global) (Option (String Global)) S) (group : List ℕ) (found : Option (Option (List ℕ))) →
    before ≡ name ∷ names → before_captures ≡ capture ∷ captures → string_bytes key ≡ string_bytes name → option_map text_of value ≡ option_text capture →
    Updates string_eq old new key (Some value) →
    option_or (group_of (map (λ string. text_of string) before) (map option_text before_captures) group) (group_in old group) ≡ found →
    option_or (group_of (map (λ string. text_of string) names) (map option_text captures) group) (group_in new group) ≡ found
groups-more before names before_captures captures name key capture value old new group found is_first is_capture is_name is_value put was =
    let rest = group_of (map (λ string. text_of string) names) (map option_text captures) group in
    ap (λ there. option_or rest there) (group_in-put old new key value put group)
    ∙ ap (λ text. option_or rest (cond (bytes_eq group text) (Some (option_map text_of value)) (group_in old group))) (text-same key name is_name)
    ∙ ap (λ captured. option_or rest (cond (bytes_eq group (text_of name)) (Some captured) (group_in old group))) is_value
    ∙ sym (group_of-first group (text_of name) (map (λ string. text_of string) names) (option_text capture) (map option_text captures) (group_in old group))
    ∙ ap (λ texts. option_or (group_of texts (option_text capture ∷ map option_text captures) group) (group_in old group)) (ap (map (λ string. text_of string)) (sym is_first))
    ∙ ap (λ captured. option_or (group_of (map (λ string. text_of string) before) captured group) (group_in old group)) (ap (map option_text) (sym is_capture))
    ∙ was

-- At the end the map has all groups.
pub groups-end : (names : List (String Global)) (captures : List (Option (Bor (List ℕ)))) (group : List ℕ) (there found : Option (Option (List ℕ))) →
    (names ≡ []) ⊎ (captures ≡ []) →
    option_or (group_of (map (λ string. text_of string) names) (map option_text captures) group) there ≡ found → there ≡ found
groups-end names captures group there found ends was =
    let left : (map (λ string. text_of string) names ≡ []) ⊎ (map option_text captures ≡ []) =
    ⊎_elim (λ e. inl (ap (map (λ string. text_of string)) e)) (λ e. inr (ap (map option_text) e)) ends in
    ap (λ rest. option_or rest there) (sym (group_of-end (map (λ string. text_of string) names) (map option_text captures) group left)) ∙ was

-- ---- the group of a name

-- A test of characters is a test of bytes.
pub chars-test : (bytes other : List ℕ) → IsUtf8 bytes → IsUtf8 other → bytes_eq (chars bytes) (chars other) ≡ bytes_eq bytes other
chars-test bytes other one two =
    ⊎_elim
    (λ same. (bytes_decides (chars bytes) (chars other)).1 (ap chars ((bytes_decides bytes other).0 same)) ∙ sym same)
    (λ differ. ⊎_elim
    (λ alike. absurd (false≢true (sym differ ∙ (bytes_decides bytes other).1
    (sym (encodes-chars bytes one) ∙ ap encode_utf8_all ((bytes_decides (chars bytes) (chars other)).0 alike) ∙ encodes-chars other two))))
    (λ unlike. unlike ∙ sym differ)
    (cases_Bool (bytes_eq (chars bytes) (chars other))))
    (cases_Bool (bytes_eq bytes other))

-- After the first capture, taken if its name is that of the group, later captures are still to
-- come.
pub named-more : (before names : List (String Global)) (before_captures captures : List (Option (Bor (List ℕ)))) (name : String Global) (capture : Option (Bor (List ℕ)))
    (group : List ℕ) (old new found : Option (Option (List ℕ))) →
    before ≡ name ∷ names → before_captures ≡ capture ∷ captures → new ≡ cond (bytes_eq group (text_of name)) (Some (option_text capture)) old →
    option_or (group_of (map (λ string. text_of string) before) (map option_text before_captures) group) old ≡ found →
    option_or (group_of (map (λ string. text_of string) names) (map option_text captures) group) new ≡ found
named-more before names before_captures captures name capture group old new found is_first is_capture is_new was =
    ap (λ there. option_or (group_of (map (λ string. text_of string) names) (map option_text captures) group) there) is_new
    ∙ sym (group_of-first group (text_of name) (map (λ string. text_of string) names) (option_text capture) (map option_text captures) old)
    ∙ ap (λ texts. option_or (group_of texts (option_text capture ∷ map option_text captures) group) old) (ap (map (λ string. text_of string)) (sym is_first))
    ∙ ap (λ captured. option_or (group_of (map (λ string. text_of string) before) captured group) old) (ap (map option_text) (sym is_capture))
    ∙ was

-- What a map has at a name is what it has at the bytes of the name.
pub group_in-text : {S : Type 0} (groups : HashMap (String Global) (Option (String Global)) S) (name : List ℕ) → IsUtf8 name →
    group_in groups (chars name) ≡ option_map (option_map text_of) (get_by_text groups name)
group_in-text groups name u =
    ap (option_map (option_map text_of))
    (lookup-alike (λ key. bytes_eq (chars name) (text_of key)) (λ key. bytes_eq name (string_bytes key)) (λ key. chars-test name (string_bytes key) u (IsUtf8-string_bytes key)) groups.entries)

-- A borrowed capture, by its characters.
captured-text : (found : Option (Option (String Global))) (capture : Option (Bor (List ℕ))) → option_copied capture ≡ captured_bytes found →
    option_text capture ≡ option_flatten (option_map (option_map text_of) found)
captured-text None None e = refl
captured-text None (Some text) e = absurd cc
captured-text (Some None) None e = refl
captured-text (Some None) (Some text) e = absurd cc
captured-text (Some (Some string)) None e = absurd cc
captured-text (Some (Some string)) (Some text) e =
    let same : text.now ≡ string_bytes string = cc in
    ap (λ bytes. Some (chars bytes)) same

pub group-captured : {S : Type 0} (groups : HashMap (String Global) (Option (String Global)) S) (name : List ℕ) (capture : Option (Bor (List ℕ))) → IsUtf8 name →
    option_copied capture ≡ captured_bytes (get_by_text groups name) → option_text capture ≡ option_flatten (group_in groups (chars name))
group-captured groups name capture u e =
    captured-text (get_by_text groups name) capture e ∙ ap option_flatten (sym (group_in-text groups name u))

-- A borrowed capture, where no group and a group that took no part are both None.
pub flattened-text : (found : Option (Option (Bor (List ℕ)))) → option_text (option_flatten found) ≡ option_flatten (option_map option_text found)
flattened-text None = refl
flattened-text (Some capture) = refl

-- Without captures there are no groups.
pub zip-none : {A B C : Type 0} (f : B → C) (names : List A) (captures : List B) → length captures ≡ 0 → zip names (map f captures) ≡ []
zip-none f [] captures none = refl
zip-none f (name ∷ names) [] none = refl
zip-none f (name ∷ names) (capture ∷ captures) none = absurd (omega arith)
