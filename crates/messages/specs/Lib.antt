-- What the code of messages promises, over the statements.
pub mod Made
