-- What the iterator over the values of an `Eight` has yet to return.
use Rattle.std.specs.Prelude.{List}
use Rattle.std.specs.Borrow.{Bor}
use Rattle.std.specs.Slice.Iter.{iter_rest}
use Rattle.urlpattern_components.specs.declared.eight.ComponentName.{ComponentName}
use Rattle.urlpattern_components.specs.declared.eight.named.NamedValues.{NamedValues}
use Rattle.urlpattern_components.specs.Eight.{named_values}

-- The component and the value of an item of the iterator, which borrows the value.
abbrev pub named_value : {A : Type 0} → ComponentName × Bor A → ComponentName × A
named_value value = (value.0, value.1.now)

-- The values that the iterator has yet to return, each after the name of its component.
abbrev pub values_left : {A : Type 0} → NamedValues A → List (ComponentName × A)
values_left values = named_values values.values.now (iter_rest values.names)
