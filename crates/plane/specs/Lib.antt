-- Convex polygons in the plane, by their corners, and when two of them share an inner point (document 02, N10).
-- Points: corners, points with fractions, left of a side. Polygon: sides, inner points, convex. Apart: a line along a
-- side parts two polygons. Boxes: boxes around them. All of it a reader must believe.
pub mod Points
pub mod Polygon
pub mod Apart
pub mod Boxes
