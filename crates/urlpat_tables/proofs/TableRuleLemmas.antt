-- Lemmas on the rules of a table.
use Rattle.std.proofs.Common.{◌≡◌, ◌<◌, ◌+◌, ◌∙◌, ℕ, List, [], ◌∷◌, ◌++◌, ap, append-nil, get_or, length, refl, subst, sym, take}
use Rattle.std.proofs.lemmas.List.Elements.{filter_map-append}
use Rattle.std.specs.List.{AllZip, filter_map}
use Rattle.std.specs.Prelude.{Err, IfErr, IfOk, Ok, OnOk, Result}
use Rattle.urlpat_matching.specs.Tables.{EntryView, entries_view, entry_view}
use Rattle.urlpat_matching.specs.declared.table.Entry.{Entry}
use Rattle.urlpat_tables.proofs.ListLemmas.{zip-map-taken}
use Rattle.urlpat_tables.specs.TableRules.{AddsReading, AreRead, AreRulesOf, IsReading, Reading, fault_in, rule_in}
use Rattle.urlpat_tables.specs.declared.table_fault.FaultReason.TheVariants.{Rejected}
use Rattle.urlpat_tables.specs.declared.table_fault.TableFault.{TableFault}
use Rattle.urlpattern.specs.UrlPattern.{UrlPattern}
use Rattle.urlpattern_diagnosis.specs.declared.diagnosis.Diagnosis.{Diagnosis}
use Rattle.urlpattern_engine.specs.declared.pattern_regexp.PatternRegexp.{PatternRegexp}
use Rattle.urlpattern_policy_text.specs.Statements.{column_of}

-- The fault of a pattern that is rejected, in its column.
pub fault-at : (entry : EntryView) (rest : List ℕ) (into column : ℕ) (diagnosis : Diagnosis) → column ≡ column_of entry.line rest into
    → ◌≡◌ {A = TableFault} (record { line = entry.number; column = column; reason = Rejected diagnosis }) (record { line = entry.number; column = column_of entry.line rest into; reason = Rejected diagnosis })
fault-at entry rest into column diagnosis is =
    let at : ℕ → TableFault = λ place. record { line = entry.number; column = place; reason = Rejected diagnosis } in
    ap at is

-- A rule is appended.
pub rule-added : {T A E : Type 0} (reading : Reading T) (rule : UrlPattern PatternRegexp × T) (done : Result A E) (old new : List (UrlPattern PatternRegexp × T)) (faults : List TableFault)
    → reading ≡ Ok rule → new ≡ old ++ rule ∷ [] → OnOk done (AddsReading reading old faults new faults)
rule-added {T} reading rule (Ok it) old new faults is grown = subst (λ (read : Reading T). AddsReading read old faults new faults) (sym is) (grown, refl)
rule-added reading rule (Err error) old new faults is grown = tt

-- Memory ran out.
pub not-added : {A E : Type 0} (done : Result A E) (error : E) (Added : Type 0) → done ≡ Err error → OnOk done Added
not-added (Ok it) error Added is = absurd cc
not-added (Err it) error Added is = tt

module _ {T : Type 0} (Reads : EntryView → UrlPattern PatternRegexp → T → Type 0) (Faults : EntryView → TableFault → Type 0) where
  -- No entries are read as no rules.
  pub read-none : (rules : List (UrlPattern PatternRegexp × T)) (faults : List TableFault) → rules ≡ [] → faults ≡ [] → AreRead Reads Faults [] rules faults
  read-none rules faults are none = ([], tt, are, none)

  -- What is promised of a rule and of a fault is promised of what is read.
  pub is-reading : (entry : EntryView) (reading : Reading T) → IfOk reading (λ rule. Reads entry rule.0 rule.1) → IfErr reading (Faults entry) → IsReading Reads Faults entry reading
  is-reading entry (Ok rule) read fault = read
  is-reading entry (Err error) read fault = fault

  rules-more : (reading : Reading T) (old new : List (UrlPattern PatternRegexp × T)) (old_faults new_faults : List TableFault) (all : List (Reading T)) → AddsReading reading old old_faults new new_faults
      → old ≡ filter_map rule_in all → new ≡ filter_map rule_in all ++ filter_map rule_in (reading ∷ [])
  rules-more (Ok rule) old new old_faults new_faults all (grown, same) are = grown ∙ ap (λ (rs : List (UrlPattern PatternRegexp × T)). rs ++ rule ∷ []) are
  rules-more (Err fault) old new old_faults new_faults all (same, grown) are = same ∙ are ∙ sym (append-nil (filter_map rule_in all))

  faults-more : (reading : Reading T) (old new : List (UrlPattern PatternRegexp × T)) (old_faults new_faults : List TableFault) (all : List (Reading T)) → AddsReading reading old old_faults new new_faults
      → old_faults ≡ filter_map fault_in all → new_faults ≡ filter_map fault_in all ++ filter_map fault_in (reading ∷ [])
  faults-more (Ok rule) old new old_faults new_faults all (grown, same) are = same ∙ are ∙ sym (append-nil (filter_map fault_in all))
  faults-more (Err fault) old new old_faults new_faults all (same, grown) are = grown ∙ ap (λ (fs : List TableFault). fs ++ fault ∷ []) are

  -- What is read of the next entry is appended.
  pub read-more : (entries : List Entry) (index : ℕ) (none : Entry) (reading : Reading T) (old new : List (UrlPattern PatternRegexp × T)) (old_faults new_faults : List TableFault)
      → index < length entries → AddsReading reading old old_faults new new_faults → IsReading Reads Faults (entry_view (get_or entries index none)) reading
      → AreRead Reads Faults (entries_view (take index entries)) old old_faults → AreRead Reads Faults (entries_view (take (index + 1) entries)) new new_faults
  read-more entries index none reading old new old_faults new_faults within adds is (all, are, rules, faults) = (
    all ++ reading ∷ [],
    zip-map-taken (IsReading Reads Faults) entry_view entries index none all reading within are is,
    rules-more reading old new old_faults new_faults all adds rules ∙ sym (filter_map-append rule_in all (reading ∷ [])),
    faults-more reading old new old_faults new_faults all adds faults ∙ sym (filter_map-append fault_in all (reading ∷ [])),
  )

  all-rules : (entries : List EntryView) (all : List (Reading T)) → AllZip (IsReading Reads Faults) entries all → filter_map fault_in all ≡ [] → AreRulesOf Reads entries (filter_map rule_in all)
  all-rules [] [] are none = tt
  all-rules [] (it ∷ all) are none = absurd are
  all-rules (entry ∷ entries) [] are none = absurd are
  all-rules (entry ∷ entries) (Ok rule ∷ all) are none = (are.0, all-rules entries all are.1 none)
  all-rules (entry ∷ entries) (Err fault ∷ all) are none = absurd cc

  -- Without faults, each entry is read as a rule.
  pub rules-read : (entries : List EntryView) (rules : List (UrlPattern PatternRegexp × T)) (faults : List TableFault) → AreRead Reads Faults entries rules faults → faults ≡ [] → AreRulesOf Reads entries rules
  rules-read entries rules faults (all, are, are_rules, are_faults) none =
      subst (λ (rs : List (UrlPattern PatternRegexp × T)). AreRulesOf Reads entries rs) (sym are_rules) (all-rules entries all are (sym are_faults ∙ none))
