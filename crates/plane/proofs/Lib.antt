-- Lists: members of lists. Lines: lines as functions of a point. Step: a small step. Helly: lines of which each three
-- have a common point on their left have one. Parted: parted polygons share no inner point. Unparted: polygons that no
-- side parts share one. Convex: left turns make a convex polygon. Boxes: boxes without a common inner point. Examples.
pub mod Lists
pub mod Lines
pub mod Step
pub mod Helly
pub mod Parted
pub mod Unparted
pub mod Convex
pub mod Boxes
pub mod Examples
