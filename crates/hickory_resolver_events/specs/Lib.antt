pub mod Events
pub mod Playing
pub use Rattle.hickory_resolver_theorems.specs.CallReplies
pub use Rattle.hickory_resolver_theorems.specs.InterleavedCalls
