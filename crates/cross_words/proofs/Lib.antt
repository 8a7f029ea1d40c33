mod One
mod Within
