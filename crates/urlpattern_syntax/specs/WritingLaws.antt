-- The laws of the trait `Writer` for its impls. An impl cites the proofs of the laws, which is why
-- these lemmas are not in proofs/.
use Rattle.std.specs.Prelude.{◌≡◌, ◌+◌, ◌++◌, ℕ, List, [], Option, Some, None, String, string_bytes, string_len, encode_utf8_all, length}
use Rattle.std.proofs.Common.{refl, sym, ap, ◌∙◌, arith, append_assoc, length-append}
use Rattle.std.proofs.lemmas.List.{append-nil, append_cancel_left}
use Rattle.std.proofs.lemmas.Option.{none-some}
use Rattle.std.proofs.lemmas.Str.{encodes-append, encodes-chars, IsUtf8-string_bytes}
use Rattle.std.specs.declared.alloc.Global.{Global}
use Rattle.urlpattern_syntax.specs.Text.{byte_len, text_of}
use Rattle.urlpattern_syntax.specs.Writing.{Appends, Compares, Counts, HasRoom}

-- The empty text has no bytes.
pub byte_len-nil : byte_len [] ≡ 0
unfolding byte_len
byte_len-nil = refl

-- Two texts joined have as many bytes as both of them.
pub byte_len-append : (xs ys : List ℕ) → byte_len (xs ++ ys) ≡ byte_len xs + byte_len ys
unfolding byte_len
byte_len-append xs ys =
    ap length (encodes-append xs ys) ∙ length-append (encode_utf8_all xs) (encode_utf8_all ys)

-- The length of a `String` is that of its characters in UTF-8.
byte_len-string : (string : String Global) → byte_len (text_of string) ≡ string_len string
unfolding byte_len
byte_len-string string =
    ap length (encodes-chars (string_bytes string) (IsUtf8-string_bytes string))
    ∙ sym string.bytes.ok.0

-- Writing the empty text leaves a counter as it is.
pub counts_nothing : (bytes : ℕ) → Counts bytes [] bytes
counts_nothing bytes = record { count = λ below. omega (arith, byte_len-nil) }

-- Writing two texts one after the other counts the bytes of the joined text.
pub counts_both : (before between after : ℕ) (xs ys : List ℕ) → Counts before xs between
    → Counts between ys after → Counts before (xs ++ ys) after
counts_both before between after xs ys first second = record {
  count = λ below.
      let last = second.count below in
      let front = first.count (omega arith) in
      omega (arith, byte_len-append xs ys);
}

-- A `String` that has room for two texts has room for the first.
pub room_front : (string : String Global) (xs ys : List ℕ) → HasRoom string (xs ++ ys)
    → HasRoom string xs
room_front string xs ys h = record { room = omega (arith, byte_len-append xs ys, h.room) }

-- A `String` that has room for two texts, once the first is appended, has room for the second.
pub room_rest : (before after : String Global) (xs ys : List ℕ) → HasRoom before (xs ++ ys)
    → Appends before xs after → HasRoom after ys
room_rest before after xs ys h appends =
    let both = byte_len-append xs ys in
    let grown = ap byte_len appends.text ∙ byte_len-append (text_of before) xs in
    let old = byte_len-string before in
    let new = byte_len-string after in
    record { room = omega (arith, h.room, appends.capacity) }

-- Writing the empty text leaves a `String` as it is.
pub appends_nothing : (string : String Global) → Appends string [] string
appends_nothing string = record { text = sym (append-nil _); capacity = omega arith }

-- Writing two texts one after the other appends the joined text.
pub appends_both : (before between after : String Global) (xs ys : List ℕ)
    → Appends before xs between
    → Appends between ys after → Appends before (xs ++ ys) after
appends_both before between after xs ys first second = record {
  text = second.text ∙ ap (λ text. text ++ ys) first.text ∙ append_assoc (text_of before) xs ys;
  capacity = omega (arith, first.capacity, second.capacity);
}

-- Writing the empty text leaves a comparison as it is.
pub compares_nothing : (left : Option (List ℕ)) → Compares left [] left
compares_nothing None = refl
compares_nothing (Some text) = refl

-- After `xs`, a text that begins with `xs ++ ys` begins with `ys`.
compares_one : (text between xs ys : List ℕ) → text ≡ xs ++ between
    → (rest : List ℕ) → text ≡ (xs ++ ys) ++ rest → between ≡ ys ++ rest
compares_one text between xs ys e rest f =
    append_cancel_left xs between (ys ++ rest) (sym e ∙ f ∙ append_assoc xs ys rest)

-- Writing two texts one after the other compares the joined text.
pub compares_both : (before between after : Option (List ℕ)) (xs ys : List ℕ)
    → Compares before xs between
    → Compares between ys after → Compares before (xs ++ ys) after
compares_both None None after xs ys first second = second
compares_both None (Some between) after xs ys first second = absurd (none-some between (sym first))
compares_both (Some text) None None xs ys first second =
    λ rest e. first (ys ++ rest) (e ∙ append_assoc xs ys rest)
compares_both (Some text) None (Some after) xs ys first second =
    absurd (none-some after (sym second))
compares_both (Some text) (Some between) None xs ys first second =
    λ rest e. second rest (compares_one text between xs ys first rest e)
compares_both (Some text) (Some between) (Some after) xs ys first second =
    first ∙ ap (λ rest. xs ++ rest) second ∙ sym (append_assoc xs ys after)
