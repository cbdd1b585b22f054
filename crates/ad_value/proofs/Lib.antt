mod ContentLemmas
mod CopyLemmas
mod FoldLemmas
pub mod LiteralLemmas
pub mod ValueLemmas
