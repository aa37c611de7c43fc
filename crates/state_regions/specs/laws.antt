pub mod KindsBack
