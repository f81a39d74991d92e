pub mod Laws
mod WorkedScopes
