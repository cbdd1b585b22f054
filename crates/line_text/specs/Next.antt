-- What the reader of references gives, apart from where the texts lie.
use Rattle.line_text.specs.declared.reference.Next.{Next}
use Rattle.line_text.specs.declared.reference.Next.TheVariants.{End, Bad, Reference}
use Rattle.line_text.specs.References as refs

abbrev pub reference_of : Next → refs.Reference
reference_of End = refs.ended
reference_of Bad = refs.broken
reference_of (Reference name default rest) = refs.refers name.now default.now rest.now
