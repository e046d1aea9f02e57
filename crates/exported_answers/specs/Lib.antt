-- What an exported call checks itself.
pub mod OwnChecks
pub mod CallRefusals
