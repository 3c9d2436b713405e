-- Laws of the gradient.
pub mod Gradients
