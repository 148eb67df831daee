-- Results of the steps of reading JSON.
use Rattle.std.specs.Prelude.{◌≡◌, Option, None, Some, Result, Ok, Err, ⊤}
use Rattle.urlpattern_inputs.specs.declared.json_reading.Unread.{Unread}
use Rattle.urlpattern_syntax.specs.declared.error.Error.{Error}

-- A step of reading a JSON tree may fail with this reason, where `read` is the value in the tree,
-- None in a tree of another shape: with `Shape` only for None, with `OutOfMemory` in any case.
abbrev pub IsUnread : {Y : Type 0} → Unread → Option Y → Type 0
IsUnread Unread.Shape read = read ≡ None
IsUnread Unread.OutOfMemory read = ⊤

-- A step of reading a JSON tree may return this result, where `read` is the value in the tree, None
-- in a tree of another shape: `Ok` holds the value, seen through `view`, and an error is as
-- `IsUnread` says.
abbrev pub ReturnsRead : {X Y : Type 0} → (X → Y) → Result X Unread → Option Y → Type 0
ReturnsRead view (Ok value) read = read ≡ Some (view value)
ReturnsRead view (Err reason) read = IsUnread reason read

-- What a public call returns for the result of a step: `None` for a tree without a value, an error
-- only if memory ran out.
abbrev pub read_or_none : {X : Type 0} → Result X Unread → Result (Option X) Error
read_or_none (Ok value) = Ok (Some value)
read_or_none (Err Unread.Shape) = Ok None
read_or_none (Err Unread.OutOfMemory) = Err Error.OutOfMemory
