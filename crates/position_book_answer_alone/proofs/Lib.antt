-- Laws of the definitions.
mod Laws
