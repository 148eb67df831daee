-- A text has at most one tree.
use mathlib.Core.HLevel.{Σ_prop_path}
use Rattle.std.proofs.Common.{◌≡◌, ℕ, List, ◌++◌, refl, sym, ap, ◌∙◌, subst}
use Rattle.std.specs.Coded.{Coded-set, coded_bool, coded_list, coded_ℕ, ×_prop}
use Rattle.std.specs.Prelude.{codes}
use Rattle.std.proofs.lemmas.Bool.{eqb-false}
use Rattle.urlpattern_meaning.proofs.DialectLeads.{Ends, IsFree, IsUnclosed, Leads, ends_no_atom, spelled_free, kind, kinds_one, character_one, class_one, unclosed, quantifier_one}
use Rattle.urlpattern_meaning.proofs.DialectSpelled.{spelled, atom_spelled, items-spelled}
use Rattle.urlpattern_meaning.specs.Dialect.{Items, Nothing, Item, Atom, Literal, Dot, AnyBut, Captured, Grouped, Plain, Escaped, Quantifier, Once, Optional, ZeroOrMore, OneOrMore, LazyOneOrMore, atom_group_count, items_text, quantifier_text, AllowsGroups, AreItems, IsAtom, HasTree, IsTreeOf, IsOnlyTreeOf}

-- After the bracket that captures, no items begin with a question mark.
not_grouped : (items : Items) (rest left : List ℕ) → AreItems items → ¬ (spelled items (codes ")" ++ rest) ≡ codes "?:" ++ left)
not_grouped items rest left h e = spelled_free items (codes ")" ++ rest) h refl (subst (Leads (codes "]?*+")) (sym e) refl)

mutual
  -- Items before a rest are read from their text in one way.
  items_one : (items other : Items) (rest left : List ℕ) → AreItems items → AreItems other → Ends rest → Ends left →
      spelled items rest ≡ spelled other left → (items ≡ other) × (rest ≡ left)
  items_one Nothing Nothing rest left h g ends stops e = (refl, e)
  items_one Nothing (Item atom quantifier items) rest left h g ends stops e =
      absurd (ends_no_atom rest (quantifier_text quantifier ++ spelled items left) atom ends g.0 e)
  items_one (Item atom quantifier items) Nothing rest left h g ends stops e =
      absurd (ends_no_atom left (quantifier_text quantifier ++ spelled items rest) atom stops h.0 (sym e))
  items_one (Item atom quantifier items) (Item another own others) rest left h g ends stops e =
      let free : IsFree (spelled items rest) = spelled_free items rest h.2 ends in
      let loose : IsFree (spelled others left) = spelled_free others left g.2 stops in
      let atoms = atom_one atom another (quantifier_text quantifier ++ spelled items rest) (quantifier_text own ++ spelled others left)
      h.0 g.0 (unclosed quantifier (spelled items rest) free) (unclosed own (spelled others left) loose) e in
      let quantifiers = quantifier_one quantifier own (spelled items rest) (spelled others left) free loose atoms.1 in
      let more = items_one items others rest left h.2 g.2 ends stops quantifiers.1 in
      let same_atom : atom ≡ another = atoms.0 in
      let same_quantifier : quantifier ≡ own = quantifiers.0 in
      let same_items : items ≡ others = more.0 in
      (cc, more.1)

  atom_one : (atom other : Atom) (rest left : List ℕ) → IsAtom atom → IsAtom other → IsUnclosed rest → IsUnclosed left →
      atom_spelled atom rest ≡ atom_spelled other left → (atom ≡ other) × (rest ≡ left)
  atom_one (Literal character) (Literal other) rest left h g shut sealed e =
      let same = character_one character other rest left h g e in
      (ap Literal same.0, same.1)
  atom_one Dot Dot rest left h g shut sealed e = (refl, cc e)
  atom_one (AnyBut character) (AnyBut other) rest left h g shut sealed e =
      let same = class_one character other rest left shut sealed (cc e) in
      (ap AnyBut same.0, same.1)
  atom_one (Captured items) (Captured others) rest left h g shut sealed e =
      let same = items_one items others (codes ")" ++ rest) (codes ")" ++ left) h g refl refl (cc e) in
      (ap Captured same.0, cc (same.1))
  atom_one (Grouped items) (Grouped others) rest left h g shut sealed e =
      let same = items_one items others (codes ")" ++ rest) (codes ")" ++ left) h g refl refl (cc e) in
      (ap Grouped same.0, cc (same.1))
  atom_one (Captured items) (Grouped others) rest left h g shut sealed e =
      absurd (not_grouped items rest (spelled others (codes ")" ++ left)) h (cc e))
  atom_one (Grouped items) (Captured others) rest left h g shut sealed e =
      absurd (not_grouped others left (spelled items (codes ")" ++ rest)) g (cc (sym e)))
  atom_one atom other rest left h g shut sealed e = absurd (eqb-false (kind atom) (kind other) refl (kinds_one atom other rest left h g e))

-- A text has at most one tree.
pub trees_are_one : (text : List ℕ) (tree other : Items) → IsTreeOf text tree → IsTreeOf text other → tree ≡ other
trees_are_one text tree other h g =
    let end : List ℕ = codes "$" in
    let same = sym h.0 ∙ g.0 in
    let inner : items_text tree ++ end ≡ items_text other ++ end = cc same in
    let spellings = sym (items-spelled tree end) ∙ inner ∙ items-spelled other end in
    (items_one tree other end end h.1 g.1 refl refl spellings).0

-- A tree of a text is its only tree.
pub only_tree : (text : List ℕ) (tree : Items) → IsTreeOf text tree → IsOnlyTreeOf text tree
only_tree text tree h = record { is_tree = h; only = λ other g. trees_are_one text other tree g h }

-- ---- at most one proof that a tree is allowed

allowed_once : (quantifier : Quantifier) (groups : ℕ) → IsProp (AllowsGroups quantifier groups)
allowed_once Once groups = Prim.hlevel
allowed_once Optional groups = Prim.hlevel
allowed_once ZeroOrMore groups = Coded-set coded_ℕ groups 0
allowed_once OneOrMore groups = Coded-set coded_ℕ groups 0
allowed_once LazyOneOrMore groups = Coded-set coded_ℕ groups 0

mutual
  items_once : (items : Items) → IsProp (AreItems items)
  items_once Nothing = Prim.hlevel
  items_once (Item atom quantifier items) =
      Prim.hlevel (known_once atom, allowed_once quantifier (atom_group_count atom), items_once items)

  known_once : (atom : Atom) → IsProp (IsAtom atom)
  known_once (Literal (Plain c)) = Prim.hlevel
  known_once (Literal (Escaped c)) = Coded-set coded_bool _ _
  known_once Dot = Prim.hlevel
  known_once (AnyBut (Plain c)) = Prim.hlevel
  known_once (AnyBut (Escaped c)) = Coded-set coded_bool _ _
  known_once (Captured items) = items_once items
  known_once (Grouped items) = items_once items

pub HasTree-prop : (text : List ℕ) → IsProp (HasTree text)
HasTree-prop text = λ x y.
    Σ_prop_path (λ tree. ×_prop (Coded-set (coded_list coded_ℕ) _ _) (items_once tree)) (trees_are_one text x.0 y.0 x.1 y.1)
