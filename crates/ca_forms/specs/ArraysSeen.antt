-- What arrays in memory are seen as.
use Rattle.ca_forms.specs.Arrays.{PlainSpan, one, range, PlainArray, own_items, put_item, with_sums, array_choice}
use Rattle.ca_forms.specs.declared.array.SpanNode.{SpanNode}
use Rattle.ca_forms.specs.declared.array.SpanNode.TheVariants as span
use Rattle.ca_forms.specs.declared.array.ArrayNode.{ArrayNode}
use Rattle.ca_forms.specs.declared.array.ArrayNode.TheVariants as array

abbrev pub array_of : ArrayNode → PlainArray
array_of (array.Items s g n) = own_items s g n
array_of (array.Put a i x) = put_item a.value i x
array_of (array.Sums a rs) = with_sums a.value rs
array_of (array.Choice c a b) = array_choice c a.value b.value

abbrev pub span_of : SpanNode → PlainSpan
span_of (span.One i) = one i
span_of (span.Range f t) = range f t
