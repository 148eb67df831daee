-- The numbers of statuses for C.
use Rattle.std.specs.Prelude.{ℕ}
use Rattle.urlpattern_ffi.specs.declared.status.Status.{Status}
use Rattle.urlpattern_ffi.specs.declared.status.Status.TheVariants.{NoMatch, Done, NoUrl, NoPath, TooLong, NotUtf8, Refused, OutOfMemory, NoPattern, TooSmall, Unknown, Shared, NotAllowed, NameTaken, NotAMethod}

-- The number of a status for C. `Done` is not 0, so that a variable of zeros is never `Done`. No
-- status has the number 13, by which a policy says that it denies credentials.
abbrev pub status_number : Status → ℕ
status_number NoMatch = 0
status_number Done = 1
status_number NoUrl = 2
status_number NoPath = 3
status_number TooLong = 4
status_number NotUtf8 = 5
status_number Refused = 6
status_number OutOfMemory = 7
status_number NoPattern = 8
status_number TooSmall = 9
status_number Unknown = 10
status_number Shared = 11
status_number NotAllowed = 12
status_number NameTaken = 14
status_number NotAMethod = 15
