-- Bytes by the characters that they are.
pub use Prim.Native.Char.{code}
