-- What a group captured, percent-decoded.
use Rattle.std.specs.Prelude.{◌≡◌, ℕ, List, None, Option, Some, Result, Ok, Err, IsSomeAnd}
use Rattle.std.specs.declared.alloc.Global.{Global}
use Rattle.std.specs.declared.borrow.CowStr.{CowStr}
use Rattle.percent_encoding.specs.declared.DecodeError.{DecodeError}
use Rattle.urlpattern_values.specs.EncodedValues.{IsDecoded}

-- `result` is the capture, percent-decoded: None exactly if there is no capture. The errors are
-- those of decoding a capture.
abbrev pub IsDecodedCapture : (capture : Option (List ℕ))
    → Result (Option (CowStr Global)) DecodeError → Type 0
IsDecodedCapture capture (Ok None) = capture ≡ None
IsDecodedCapture capture (Ok (Some value)) = IsSomeAnd capture (λ text. IsDecoded text (Ok value))
IsDecodedCapture capture (Err error) = IsSomeAnd capture (λ text. IsDecoded text (Err error))
