-- Worked examples of first ways.
use Rattle.std.proofs.Common.{◌≡◌, true, [], ◌∷◌, refl, Some, None}
use Rattle.std.specs.Prelude.{codes, slice_index}
use Rattle.urlpattern_meaning.proofs.DialectExamples.{once, plain, repeated_tree}
use Rattle.urlpattern_meaning.specs.Dialect.{Plain, Items, Nothing, Item, Atom, AnyBut, Captured, Dot, Grouped, Literal, Once, Optional, ZeroOrMore, LazyOneOrMore}
use Rattle.urlpattern_meaning.specs.Ways.{first_way, first_way_by}

-- A group that captures any text, and one that captures a segment, which is lazy.
abbrev pub any_text : Atom
any_text = Captured (Item Dot ZeroOrMore Nothing)

abbrev pub segment : Atom
segment = Captured (Item (AnyBut (Plain (slice_index (codes "/") 0))) LazyOneOrMore Nothing)

-- Two wildcards in a row, `^(.*)(.*)$`: the first matches all that it can. Each other cut of `ab`
-- is a meaning too.
pub two_wildcards : first_way (Item any_text Once (once any_text)) (codes "ab") ≡ Some (Some (codes "ab") ∷ Some [] ∷ [])
unfolding first_way_by
two_wildcards = refl

-- A lazy name before a wildcard, `^([^/]+?)(.*)$`: the name matches as little as it can.
pub lazy_name : first_way (Item segment Once (once any_text)) (codes "ab") ≡ Some (Some (codes "a") ∷ Some (codes "b") ∷ [])
unfolding first_way_by
lazy_name = refl

-- A lazy name before a fixed text, `^([^/]+?)-(.*)$`: the name ends before the first hyphen, not
-- the last.
pub name_before_hyphen : first_way (Item segment Once (Item (plain (codes "-")) Once (once any_text))) (codes "a-b-c") ≡ Some (Some (codes "a") ∷ Some (codes "b-c") ∷ [])
unfolding first_way_by
name_before_hyphen = refl

-- A lazy name before the hyphen that ends the text, `^([^/]+?)-$`, matches more than the least.
pub name_before_last_hyphen : first_way (Item segment Once (once (plain (codes "-")))) (codes "a-b-") ≡ Some (Some (codes "a-b") ∷ [])
unfolding first_way_by
name_before_last_hyphen = refl

-- An optional group, `^(.*)?$`, takes part even on the empty text. With a slash before it,
-- `^(?:/(.*))?$`, it cannot.
pub optional_on_nothing : first_way (Item any_text Optional Nothing) [] ≡ Some (Some [] ∷ [])
unfolding first_way_by
optional_on_nothing = refl

pub optional_with_slash : first_way (Item (Grouped (Item (plain (codes "/")) Once (once any_text))) Optional Nothing) [] ≡ Some (None ∷ [])
unfolding first_way_by
optional_with_slash = refl

-- A repeated name, `^(?:p((?:x)(?:sp(?:x))*)s)?$`: all copies are one capture.
pub repeated_name : first_way repeated_tree (codes "pxspxs") ≡ Some (Some (codes "xspx") ∷ [])
unfolding first_way_by
repeated_name = refl

-- A repeated wildcard, `^((?:.*)*)$`, matches a text, the empty text and no line feed.
abbrev pub repeated_wildcard : Items
repeated_wildcard = once (Captured (Item (Grouped (Item Dot ZeroOrMore Nothing)) ZeroOrMore Nothing))

pub repeated_on_text : first_way repeated_wildcard (codes "ab") ≡ Some (Some (codes "ab") ∷ [])
unfolding first_way_by
repeated_on_text = refl

pub repeated_on_nothing : first_way repeated_wildcard [] ≡ Some (Some [] ∷ [])
unfolding first_way_by
repeated_on_nothing = refl

pub repeated_on_feed : first_way repeated_wildcard (codes "\n") ≡ None
unfolding first_way_by
repeated_on_feed = refl

-- A text that was emptied: the group of no copies, `^(?:)*$`.
pub nothing_repeated : first_way (Item (Grouped Nothing) ZeroOrMore Nothing) [] ≡ Some []
unfolding first_way_by
nothing_repeated = refl

-- Where case is ignored, `^([^x]+?)x$` matches a letter of either case, and the capture keeps its
-- own.
pub either_case : first_way_by true (Item (Captured (Item (AnyBut (Plain 120)) LazyOneOrMore Nothing)) Once (once (Literal (Plain 120)))) (codes "AX") ≡ Some (Some (codes "A") ∷ [])
unfolding first_way_by
either_case = refl

-- A letter outside of ASCII is compared as it is: `^É$` does not match `é`.
pub outside_case : first_way_by true (once (Literal (Plain 0xC9))) (0xE9 ∷ []) ≡ None
unfolding first_way_by
outside_case = refl
