pub mod Errors
pub mod Glue
pub mod Handles
pub mod Messages
pub mod NetErrors
pub mod Query
pub mod Recorded
pub mod Records
pub mod ResponseKind
pub mod Table
pub mod Texts
pub use Rattle.hickory_proto_names.specs.Addresses
pub use Rattle.hickory_proto_names.specs.Arpa
pub use Rattle.hickory_proto_names.specs.Name
pub use Rattle.hickory_proto_names.specs.NameDecided
pub use Rattle.hickory_proto_names.specs.NameGiven
pub use Rattle.hickory_proto_names.specs.NameLaws
pub use Rattle.hickory_proto_names.specs.NameSteps
pub use Rattle.hickory_proto_names.specs.NameText
pub use Rattle.hickory_proto_names.specs.NameTextParts
pub use Rattle.hickory_proto_codes.specs.Codes
pub use Rattle.hickory_proto_codes.specs.DecimalLaws
pub use Rattle.hickory_proto_codes.specs.declared as codes
pub use Rattle.hickory_proto_names.specs.declared as names
