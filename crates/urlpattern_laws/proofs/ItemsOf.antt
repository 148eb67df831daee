-- Texts that the grammar of `regex` reads, at any place, as items that match exactly certain texts.
use Rattle.std.proofs.Common.{max, ◌≡◌, ℕ, Bool, zero, suc, ◌+◌, List, [], ◌∷◌, ◌++◌, map, length, true, false, Some, refl, sym, ap, ◌∙◌, subst, append_assoc, append-nil, arith}
use Rattle.std.proofs.lemmas.Bool.{and_parts, and_from}
use Rattle.std.proofs.lemmas.Option.{none-some, same_Some}
use Rattle.regex_hir.proofs.AttemptLemmas.{option_and_then_some}
use Rattle.regex_hir.specs.Meaning.{cat_all}
use Rattle.regex_hir.specs.Re.{Re}
use Rattle.regex_syntax.proofs.BranchLemmas.{ends_branch, group_inside}
use Rattle.regex_syntax.specs.Brackets.{Nested}
use Rattle.regex_syntax.specs.Grammar.{group_count, Names, Place, atom, with_repetitions, item, items}
use Rattle.regex_syntax.specs.Reading.{Text, first, skip, is_at}
use Rattle.urlpattern_laws.proofs.Denoting.{Texts, Denotes, Joined, Nothing, Quantified, AreSameTexts, joined_same}
use Rattle.urlpattern_laws.proofs.Takes.{Takes}
use Rattle.urlpattern_expressions.specs.Expressions.{config_for, is_groupless, matches_characters}
use Rattle.urlpattern_laws.proofs.Catching.{Catches, Then, catches_append}
use Rattle.urlpattern_laws.proofs.Choices.{Cuts, Tries, cuts_followed, tries_append}
use Rattle.urlpattern_laws.proofs.Senses.{Sense, SameSense, Fulfils, fulfils_empty, fulfils_last, fulfils_perhaps, fulfils_quantified, fulfils_quiet, fulfils_same, joined, no_text, perhaps, quiet}
use Rattle.urlpattern_expressions.specs.PartWays.{followed_by}
use Rattle.urlpattern_meaning.specs.Ways.{WaysByText, quantified_ways}
use Rattle.urlpattern_meaning.specs.Dialect.{Quantifier, Once, Optional, quantifier_text}
use Rattle.urlpattern_engine.proofs.ItemsRead.{Free, OpensItem, at_text, quantified, repeated_as}

abbrev pub values : List (Nested Re) → List Re
values trees = map (λ tree. tree.value) trees

-- ---- items in sequence

pub joined_assoc : (A B C : Texts) → AreSameTexts (Joined A (Joined B C)) (Joined (Joined A B) C)
joined_assoc A B C text good = (
  λ (first, rest, cut, a, (second, last, f, b, c)). (first ++ second, last, cut ∙ ap (λ t. first ++ t) f ∙ sym (append_assoc first second last), (first, second, refl, a, b), c),
  λ (front, last, cut, (first, second, f, a, b), c). (first, second ++ last, cut ∙ ap (λ t. t ++ last) f ∙ append_assoc first second last, a, (second, last, refl, b, c)),
)

pub nothing_joined : (A : Texts) → AreSameTexts A (Joined Nothing A)
nothing_joined A text good = (λ is. ([], text, refl, refl, is), λ (first, rest, cut, none, is). subst A (sym (cut ∙ ap (λ t. t ++ rest) none)) is)

pub same_then : (A B C : Texts) → AreSameTexts A B → AreSameTexts B C → AreSameTexts A C
same_then A B C p q text good = (λ a. (q text good).0 ((p text good).0 a), λ c. (p text good).1 ((q text good).1 c))

pub same_texts : (A : Texts) → AreSameTexts A A
same_texts A text good = (λ a. a, λ a. a)

append_takes : (trees others : List (Nested Re)) → AreSameTexts (Takes (cat_all (values (trees ++ others)))) (Joined (Takes (cat_all (values trees))) (Takes (cat_all (values others))))
append_takes [] others = nothing_joined (Takes (cat_all (values others)))
append_takes (tree ∷ trees) others =
    same_then _ _ _ (joined_same (Takes tree.value) (Takes tree.value) _ _ (same_texts (Takes tree.value)) (append_takes trees others))
    (joined_assoc (Takes tree.value) (Takes (cat_all (values trees))) (Takes (cat_all (values others))))

append_plain : (trees others : List (Nested Re)) → matches_characters (cat_all (values trees)) ≡ true → matches_characters (cat_all (values others)) ≡ true → matches_characters (cat_all (values (trees ++ others))) ≡ true
append_plain [] others p q = q
append_plain (tree ∷ trees) others p q = and_from _ _ (and_parts _ _ p).0 (append_plain trees others (and_parts _ _ p).1 q)

denotes_append : (trees others : List (Nested Re)) (A B : Texts) → Denotes (cat_all (values trees)) A → Denotes (cat_all (values others)) B → Denotes (cat_all (values (trees ++ others))) (Joined A B)
denotes_append trees others A B d e = record {
  plain = append_plain trees others d.plain e.plain;
  same = same_then _ _ _ (append_takes trees others) (joined_same _ A _ B d.same e.same);
}

pub values_append : (trees others : List (Nested Re)) → values (trees ++ others) ≡ values trees ++ values others
values_append [] others = refl
values_append (tree ∷ trees) others = ap (λ (all : List Re). tree.value ∷ all) (values_append trees others)

groupless_append : (trees others : List (Nested Re)) → is_groupless (cat_all (values trees)) ≡ true → is_groupless (cat_all (values others)) ≡ true → is_groupless (cat_all (values (trees ++ others))) ≡ true
groupless_append [] others p q = q
groupless_append (tree ∷ trees) others p q = and_from _ _ (and_parts _ _ p).0 (groupless_append trees others (and_parts _ _ p).1 q)

pub append_count : (trees others : List (Nested Re)) → group_count (cat_all (values (trees ++ others))) ≡ max (group_count (cat_all (values trees))) (group_count (cat_all (values others)))
append_count [] others = omega arith
append_count (tree ∷ trees) others = omega (arith, append_count trees others)

module _ (ignore_case : Bool) where
  -- The groups of the second items are numbered after those of the first.
  fulfils_append : (s u : Sense) (g h : ℕ) (trees others : List (Nested Re)) → (s.Known → h ≡ g + s.count) → Fulfils ignore_case s g (cat_all (values trees)) → Fulfils ignore_case u h (cat_all (values others))
      → Fulfils ignore_case (joined s u) g (cat_all (values (trees ++ others)))
  fulfils_append s u g h trees others after a b = record {
    plain = append_plain trees others a.plain b.plain;
    denotes = λ kept. denotes_append trees others s.Is u.Is (a.denotes kept) (b.denotes kept);
    catches = λ kept k.
        subst (λ all. Catches g (s.count + u.count) (cat_all all) (Then s.Cap u.Cap)) (sym (values_append trees others))
        (catches_append g s.count u.count (values trees) (values others) s.Cap u.Cap (a.catches kept k.0) (subst (λ j. Catches j u.count (cat_all (values others)) u.Cap) (after k.0) (b.catches kept k.1)));
    groupless = λ k none. groupless_append trees others (a.groupless k.0 (omega (arith, none))) (b.groupless k.1 (omega (arith, none)));
    numbered = λ k. omega (arith, append_count trees others, a.numbered k.0, b.numbered k.1, after k.0);
    cuts = λ k. cuts_followed s.ways u.ways s.count u.count (a.cuts k.0) (b.cuts k.1);
    tries = λ k.
        subst (λ all. Tries g (followed_by s.ways u.ways) (cat_all all)) (sym (values_append trees others))
        (tries_append g s.count s.ways u.ways (values trees) (values others) (a.cuts k.0) (a.tries k.0) (subst (λ j. Tries j u.ways (cat_all (values others))) (after k.0) (b.tries k.1)));
  }

  -- ---- items

  -- The items found begin with own items, and continue with those of the rest.
  pub record ItemsCut (rest : Text) (found : List (Nested Re)) (end : Place) : Type 0 where
    pub own : List (Nested Re)
    pub more : List (Nested Re)
    pub steps : ℕ
    pub names : Names
    pub cut : found ≡ own ++ more
    pub goes_on : items steps (at_text ignore_case names rest) ≡ Some (more, end)

  -- The items read have this sense.
  pub record ItemsFound (s : Sense) (rest : Text) (before : Names) (found : List (Nested Re)) (end : Place) : Type 0 where
    pub front : ItemsCut rest found end
    pub numbers : s.Known → length front.names ≡ length before + s.count
    pub fulfils : Fulfils ignore_case s (length before) (cat_all (values front.own))

  -- At any place, if no quantifier follows, the text is read as items with this sense.
  pub record AreItemsOf (t : Text) (s : Sense) : Type 0 where
    pub starts : (rest : Text) → Free rest → Free (t ++ rest)
    -- Items with this sense exist.
    pub made : s.Known → (g : ℕ) → (own : List (Nested Re)) × Fulfils ignore_case s g (cat_all (values own))
    pub reads : (rest : Text) → Free rest → (n : ℕ) (names : Names) (found : List (Nested Re)) (end : Place) → items n (at_text ignore_case names (t ++ rest)) ≡ Some (found, end) → ItemsFound s rest names found end

  cut_again : {A : Type 0} (all first rest second last : List A) → all ≡ first ++ rest → rest ≡ second ++ last → all ≡ (first ++ second) ++ last
  cut_again all first rest second last e f = e ∙ ap (λ t. first ++ t) f ∙ sym (append_assoc first second last)

  pub no_items : AreItemsOf [] (quiet (Unit {0}) Nothing no_text)
  no_items = record {
    starts = λ rest free. free;
    made = λ k g. ([], fulfils_empty ignore_case g);
    reads = λ rest free n names found end e.
        record {
          front = record { own = []; more = found; steps = n; names = names; cut = refl; goes_on = e };
          numbers = λ k. omega arith;
          fulfils = fulfils_empty ignore_case (length names);
        };
  }

  pub append_items : (t v : Text) (s u : Sense) → AreItemsOf t s → AreItemsOf v u → AreItemsOf (t ++ v) (joined s u)
  append_items t v s u a b = record {
    starts = λ rest free. subst Free (sym (append_assoc t v rest)) (a.starts (v ++ rest) (b.starts rest free));
    made = λ k g.
        let front = a.made k.0 g in
        let back = b.made k.1 (g + s.count) in
        (front.0 ++ back.0, fulfils_append s u g (g + s.count) front.0 back.0 (λ known. refl) front.1 back.1);
    reads = λ rest free n names found end e.
        let one = a.reads (v ++ rest) (b.starts rest free) n names found end (ap (λ s. items n (at_text ignore_case names s)) (sym (append_assoc t v rest)) ∙ e) in
        let two = b.reads rest free one.front.steps one.front.names one.front.more end one.front.goes_on in
        record {
          front = record {
            own = one.front.own ++ two.front.own;
            more = two.front.more;
            steps = two.front.steps;
            names = two.front.names;
            cut = cut_again found one.front.own one.front.more two.front.own two.front.more one.front.cut two.front.cut;
            goes_on = two.front.goes_on;
          };
          numbers = λ k. omega (arith, one.numbers k.0, two.numbers k.1);
          fulfils = fulfils_append s u (length names) (length one.front.names) one.front.own two.front.own one.numbers one.fulfils two.fulfils;
        };
  }

  pub same_items : (t : Text) (s u : Sense) → SameSense s u → AreItemsOf t s → AreItemsOf t u
  same_items t s u p a = record {
    starts = a.starts;
    made = λ k g. let is = a.made (p.known k) g in (is.0, fulfils_same ignore_case s u g (cat_all (values is.0)) p is.1);
    reads = λ rest free n names found end e.
        let is = a.reads rest free n names found end e in
        record { front = is.front; numbers = λ k. omega (arith, is.numbers (p.known k), p.count); fulfils = fulfils_same ignore_case s u (length names) _ p is.fulfils };
  }

  -- ---- a single item

  pub record ItemFound (s : Sense) (rest : Text) (before : Names) (found : Nested Re) (end : Place) : Type 0 where
    pub core : Nested Re
    pub names : Names
    pub repeats : with_repetitions core (at_text ignore_case names rest) ≡ Some (found, end)
    pub numbers : s.Known → length names ≡ length before + s.count
    pub fulfils : Fulfils ignore_case s (length before) core.value

  -- At any place, before its quantifier, the text is read as an item with this sense.
  pub record IsItemOf (t : Text) (s : Sense) : Type 0 where
    pub opens : (rest : Text) → OpensItem (t ++ rest)
    -- An item with this sense exists.
    pub made : s.Known → (g : ℕ) → (core : Nested Re) × Fulfils ignore_case s g core.value
    pub reads : (rest : Text) (n : ℕ) (names : Names) (found : Nested Re) (end : Place) → item (group_inside n) (at_text ignore_case names (t ++ rest)) ≡ Some (found, end) → ItemFound s rest names found end

  -- An item, and the items read after it.
  pub record OneItem (n : ℕ) (names : Names) (t : Text) (found : List (Nested Re)) (end : Place) : Type 0 where
    pub steps : ℕ
    pub part : Nested Re
    pub after : Place
    pub parts : List (Nested Re)
    pub one : item (group_inside steps) (at_text ignore_case names t) ≡ Some (part, after)
    pub more : items steps after ≡ Some (parts, end)
    pub all : found ≡ part ∷ parts

  pub items_go_on : (n : ℕ) (names : Names) (t : Text) (found : List (Nested Re)) (end : Place) → ends_branch t ≡ false → items n (at_text ignore_case names t) ≡ Some (found, end) → OneItem n names t found end
  unfolding items skip
  items_go_on zero names t found end h e = absurd (none-some _ e)
  items_go_on (suc n) names t found end h e =
      let one = option_and_then_some _ (item (group_inside n) (at_text ignore_case names t)) (found, end) (rw h at e) in
      let more = option_and_then_some _ (items n one.0.1) (found, end) one.2 in
      let same = same_Some _ _ more.2 in
      record {
        steps = n;
        part = one.0.0;
        after = one.0.1;
        parts = more.0.0;
        one = one.1;
        more = more.1 ∙ ap (λ (result : List (Nested Re) × Place). Some (more.0.0, result.1)) same;
        all = sym (ap (λ (result : List (Nested Re) × Place). result.0) same);
      }

  pub items_stop : (n : ℕ) (names : Names) (t : Text) (found : List (Nested Re)) (end : Place) → ends_branch t ≡ true → items n (at_text ignore_case names t) ≡ Some (found, end) → (found ≡ []) × (end ≡ at_text ignore_case names t)
  unfolding items skip
  items_stop zero names t found end h e = absurd (none-some _ e)
  items_stop (suc n) names t found end h e =
      let same = same_Some _ _ (rw h at e) in
      (sym (ap (λ (result : List (Nested Re) × Place). result.0) same), sym (ap (λ (result : List (Nested Re) × Place). result.1) same))

  -- ---- quantifiers

  -- An atom is read with its quantifier.
  repeated_once : (q : Quantifier) (core : Nested Re) (names : Names) (rest : Text) → Free rest → (part : Nested Re) (after : Place) → with_repetitions core (at_text ignore_case names (quantifier_text q ++ rest)) ≡ Some (part, after)
      → (part ≡ repeated_as q core) × (at_text ignore_case names rest ≡ after)
  repeated_once q core names rest free part after e =
      let same = same_Some _ _ (sym (quantified ignore_case q core names rest free) ∙ e) in
      (sym (ap (λ (result : Nested Re × Place). result.0) same), ap (λ (result : Nested Re × Place). result.1) same)

  -- An item with its quantifier.
  repeated_items : (t : Text) (s u : Sense) (q : Quantifier) → u.count ≡ s.count → (u.Known → s.Known) → ((g : ℕ) (sub : Nested Re) → Fulfils ignore_case s g sub.value → Fulfils ignore_case u g (repeated_as q sub).value) → IsItemOf t s
      → AreItemsOf (t ++ quantifier_text q) u
  repeated_items t s u q count known conv a = record {
    starts = λ rest free. subst Free (sym (append_assoc t (quantifier_text q) rest)) (a.opens (quantifier_text q ++ rest)).0;
    made = λ k g. let one = a.made (known k) g in (repeated_as q one.0 ∷ [], fulfils_last ignore_case u g (repeated_as q one.0).value (conv g one.0 one.1));
    reads = λ rest free n names found end e.
        let split = append_assoc t (quantifier_text q) rest in
        let is = items_go_on n names (t ++ (quantifier_text q ++ rest)) found end (a.opens (quantifier_text q ++ rest)).1 (ap (λ s. items n (at_text ignore_case names s)) (sym split) ∙ e) in
        let one = a.reads (quantifier_text q ++ rest) is.steps names is.part is.after is.one in
        let same = repeated_once q one.core one.names rest free is.part is.after one.repeats in
        record {
          front = record { own = is.part ∷ []; more = is.parts; steps = is.steps; names = one.names; cut = is.all; goes_on = ap (items is.steps) same.1 ∙ is.more };
          numbers = λ k. omega (arith, one.numbers (known k), count);
          fulfils = fulfils_last ignore_case u (length names) is.part.value (subst (λ (tree : Nested Re). Fulfils ignore_case u (length names) tree.value) (sym same.0) (conv (length names) one.core one.fulfils));
        };
  }

  pub quantified_items : (t : Text) (K : Type 0) (Is : Texts) (ways : WaysByText) (q : Quantifier) → IsItemOf t (quiet K Is ways) → AreItemsOf (t ++ quantifier_text q) (quiet K (Quantified q Is) (quantified_ways q 0 ways))
  quantified_items t K Is ways q a = repeated_items t (quiet K Is ways) (quiet K (Quantified q Is) (quantified_ways q 0 ways)) q refl (λ k. k) (λ g sub f. fulfils_quantified ignore_case K Is ways q g sub f) a

  pub once_items : (t : Text) (s : Sense) → IsItemOf t s → AreItemsOf t s
  once_items t s a = subst (λ v. AreItemsOf v s) (append-nil t) (repeated_items t s s Once refl (λ k. k) (λ g sub f. f) a)

  pub perhaps_items : (t : Text) (s : Sense) → IsItemOf t s → AreItemsOf (t ++ quantifier_text Optional) (perhaps s)
  perhaps_items t s a = repeated_items t s (perhaps s) Optional refl (λ k. k) (λ g sub f. fulfils_perhaps ignore_case s g sub f) a

  -- An item that is not a group.
  pub atom_item : (t : Text) (sub : Nested Re) (Is : Texts) (ways : WaysByText) → ((rest : Text) → OpensItem (t ++ rest)) → ((rest : Text) → is_at "(" (t ++ rest) ≡ false) → ((rest : Text) → atom (config_for ignore_case) (t ++ rest) ≡ Some (sub, rest))
      → matches_characters sub.value ≡ true → (ignore_case ≡ false → Denotes sub.value Is) → is_groupless sub.value ≡ true → Cuts ways 0 → ((g : ℕ) → Tries g ways sub.value) → IsItemOf t (quiet (Unit {0}) Is ways)
  unfolding item
  atom_item t sub Is ways begins no_group reads plain d groupless cuts tries = record {
    opens = begins;
    made = λ k g. (sub, fulfils_quiet ignore_case (Unit {0}) Is ways g sub.value plain d (λ known. groupless) (λ known. cuts) (λ known. tries g));
    reads = λ rest n names found end e.
        record {
          core = sub;
          names = names;
          repeats = rw (item, no_group rest, reads rest) at e;
          numbers = λ k. omega arith;
          fulfils = fulfils_quiet ignore_case (Unit {0}) Is ways (length names) sub.value plain d (λ k. groupless) (λ k. cuts) (λ k. tries (length names));
        };
  }
