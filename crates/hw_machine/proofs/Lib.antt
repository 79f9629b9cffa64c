mod Cold
mod Opening
